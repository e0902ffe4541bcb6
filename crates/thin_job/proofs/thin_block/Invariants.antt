use Rattle.std.proofs.Common.{◌*◌}
use Rattle.thin_job.specs.ThinJob.{stays_at}
use Rattle.thin_job.proofs.Thinning.{ThinnedTo}
use Rattle.thin_job.proofs.thin_block.Given as goal

abbrev pub invariant-loop-g : goal.invariant-loop-g
invariant-loop-g l = ThinnedTo (stays_at l.keep) l.initial.levels (8 * l.g) l.levels
