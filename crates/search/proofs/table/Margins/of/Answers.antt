-- `search::table::Margins::of` meets its contract: one size is swept after another.
-- Assumes nothing.
use Rattle.std.proofs.Common.{arith}
use Rattle.search.proofs.Tabling.{swept_next}
use Rattle.search.proofs.table.Margins.of.Goals as goal

pub loop-size-preserved : goal.loop-size-preserved
loop-size-preserved c = swept_next c.requires (omega arith) c.loop-size.invariant c.with_size-margins.ensures
