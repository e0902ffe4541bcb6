-- The sum stays within its range.
use Rattle.std.proofs.Common.{◌<◌}
use Rattle.cases.proofs.tell.sum.Given as goal

abbrev pub invariant-loop-x : goal.invariant-loop-x
invariant-loop-x l = l.sum < 1000000007
