use Rattle.thin_job.specs.Parts.{is_set}
use Rattle.thin_job.proofs.Thinning.{ThinnedTo}
use Rattle.thin_job.proofs.thin_eight.Given as goal

abbrev pub invariant-loop-k : goal.invariant-loop-k
invariant-loop-k l = ThinnedTo (is_set l.bits) l.initial.levels l.k l.levels
