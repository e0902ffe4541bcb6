use Rattle.std.proofs.Common.{◌≡◌, false}
use Rattle.still.specs.Passed.{Passed, zero_kept}
use Rattle.still.proofs.any_zero_kept.Given as goal

abbrev pub invariant-loop-k : goal.invariant-loop-k
invariant-loop-k l = l.bad ≡ false → Passed (zero_kept l.levels l.bits) l.k
