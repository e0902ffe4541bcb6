use Rattle.std.proofs.Common.{◌≡◌, false}
use Rattle.still.specs.Passed.{Passed, level_bad}
use Rattle.still.proofs.any_bad_level.Given as goal

abbrev pub invariant-loop-k : goal.invariant-loop-k
invariant-loop-k l = l.bad ≡ false → Passed (level_bad l.block) l.k
