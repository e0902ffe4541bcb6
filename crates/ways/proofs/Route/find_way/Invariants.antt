-- The corners known stay in order between the present corner and the goal, and the nearest comes nearer.
use Rattle.std.proofs.Common.{◌≡◌}
use Rattle.still.specs.Blocks.{block_in}
use Rattle.search.specs.Searching.{Holds}
use Rattle.ways.specs.Looking.{nearest, Seeks}
use Rattle.ways.proofs.Route.find_way.Given as goal

abbrev pub invariant-loop-self : goal.invariant-loop-self
invariant-loop-self l = record {
  seeks : Seeks (block_in l.fn.search.still l.i) l.fn.self l.self;
  holds : Holds l.search l.i;
  still : l.search.still ≡ l.fn.search.still;
}

abbrev pub decreases-loop-self : goal.decreases-loop-self
decreases-loop-self l = (nearest l.self).bits
