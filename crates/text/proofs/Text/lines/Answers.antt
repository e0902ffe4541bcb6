-- `text::Text::lines` meets its contract: each turn puts the next corner's line behind the lines before it.
-- Assumes nothing.
use Rattle.std.proofs.Common.{refl, rules}
use Rattle.text.proofs.Pieces.{no_line, next_line, corner_line}
use Rattle.text.proofs.Text.lines.Goals as goal

pub loop-bits-init : goal.loop-bits-init
loop-bits-init c = record { same_bytes = refl; lines = no_line c.args.list.now }

pub loop-bits-preserved : goal.loop-bits-preserved
loop-bits-preserved c =
    let e = corner_line c.args.list.now c.args.n c.as_chunks.ensures.front c.loop-bits-test.true c.requires.listed in
    record { same_bytes = search rules; lines = next_line c.args.list.now c.loop-bits.bits-index c.loop-bits.invariant.lines (rw e at c.line.ensures.put) }
