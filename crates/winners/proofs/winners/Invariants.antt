use Rattle.std.proofs.Common.{◌≡◌}
use Rattle.still.specs.Blocks.{block_in}
use Rattle.winners.specs.Winners.{Winners}
use Rattle.winners.proofs.winners.Given as goal

abbrev pub invariant-loop-i : goal.invariant-loop-i
invariant-loop-i l =
    (l.search.still ≡ l.fn.search.still) × Winners (block_in l.fn.search.still) l.i l.price.a l.price.b l.each
