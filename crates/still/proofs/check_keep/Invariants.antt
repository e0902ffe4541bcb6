use Rattle.std.proofs.Common.{◌*◌, length}
use Rattle.still.specs.Passed.{Passed, levels_in}
use Rattle.still.specs.Refusals.{bad_keep}
use Rattle.still.proofs.check_keep.Given as goal

abbrev pub invariant-loop-b : goal.invariant-loop-b
invariant-loop-b l = Passed (bad_keep (levels_in l.blocks) l.keep) (64 * length l.yielded)
