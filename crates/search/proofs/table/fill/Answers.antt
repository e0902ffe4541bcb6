-- `search::table::fill` meets its contract: an entry is stored after another, in rows.
-- Assumes nothing.
use Rattle.std.proofs.Common.{arith}
use Rattle.search.proofs.Tabling.{entry_of, filled_start, filled_next}
use Rattle.search.proofs.table.fill.Goals as goal

pub loop-size-init : goal.loop-size-init
loop-size-init c =
    filled_start c.args.still.now.sound.length_limits.most (rw (← c.unwrap_or.ensures) at (entry_of _ c.code_length.ensures)) c.told-bits
    (c.fill.ensures.after (λ y e. e)) (c.fill-2.ensures.after (λ y e. e))

pub loop-run-preserved : goal.loop-run-preserved
loop-run-preserved c =
    filled_next c.args.still.now.sound.length_limits.most c.loop-run.invariant (omega arith) (omega arith) c.loop-run-test.true
    (rw (← c.unwrap_or-in-loop-run.ensures) at (entry_of _ c.level_bits.ensures))
