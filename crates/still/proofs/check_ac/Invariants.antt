use Rattle.std.proofs.Common.{◌*◌}
use Rattle.still.specs.Passed.{Passed, levels_in}
use Rattle.still.specs.Refusals.{bad_level}
use Rattle.still.proofs.check_ac.Given as goal

abbrev pub invariant-loop-b : goal.invariant-loop-b
invariant-loop-b l = Passed (bad_level (levels_in l.blocks)) (64 * l.b)
