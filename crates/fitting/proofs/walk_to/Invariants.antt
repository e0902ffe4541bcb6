use Rattle.std.proofs.Common.{◌≡◌, ◌-◌}
use Rattle.fitting.specs.Fitting.{Walks}
use Rattle.fitting.proofs.walk_to.Given as goal

abbrev pub invariant-loop-budget : goal.invariant-loop-budget
invariant-loop-budget l = Walks l.course l.budget × (l.course.search.still ≡ l.fn.course.search.still)

abbrev pub decreases-loop-budget : goal.decreases-loop-budget
decreases-loop-budget l = l.budget - l.course.point.bits.0
