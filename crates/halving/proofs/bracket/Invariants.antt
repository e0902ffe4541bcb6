use Rattle.std.proofs.Common.{◌≡◌, ◌-◌, ◌<◌}
use Rattle.still.specs.Blocks.{block_in}
use Rattle.halving.specs.Brackets.{Brackets}
use Rattle.halving.proofs.bracket.Given as goal

abbrev pub invariant-loop-low : goal.invariant-loop-low
invariant-loop-low l =
    (l.search.still ≡ l.fn.search.still) × Brackets (block_in l.fn.search.still) l.n l.budget l.low l.high × (l.turn < 8)

abbrev pub decreases-loop-low : goal.decreases-loop-low
decreases-loop-low l = l.high.price - l.low.price
