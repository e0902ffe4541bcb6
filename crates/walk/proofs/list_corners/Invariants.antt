-- The corners with fewer bits than the present one are listed; each turn the still has more bits.
use Rattle.std.proofs.Common.{◌≡◌, ◌*◌, ◌-◌}
use Rattle.block.specs.Limits.{most_bits}
use Rattle.still.specs.Blocks.{count_of}
use Rattle.walk.specs.Walking.{Lists}
use Rattle.walk.proofs.list_corners.Given as goal

abbrev pub invariant-loop-count : goal.invariant-loop-count
invariant-loop-count l = record {
  lists : Lists l.course l.fn.out l.out l.count;
  still : l.course.search.still ≡ l.fn.course.search.still;
}

abbrev pub decreases-loop-count : goal.decreases-loop-count
decreases-loop-count l = most_bits * count_of l.fn.course.search.still - l.course.point.bits.0
