use Rattle.std.proofs.Common.{◌≡◌, false}
use Rattle.still.specs.Passed.{Passed}
use Rattle.still.specs.Refusals.{outside_at}
use Rattle.still.proofs.any_outside.Given as goal

abbrev pub invariant-loop-v : goal.invariant-loop-v
invariant-loop-v l = l.outside ≡ false → Passed (outside_at l.low l.high l.values) l.v-index
