use Rattle.std.proofs.Common.{◌*◌}
use Rattle.thin_job.specs.ThinJob.{stays}
use Rattle.thin_job.proofs.Thinning.{ThinnedTo}
use Rattle.thin_job.proofs.drop_levels.Given as goal

abbrev pub invariant-loop-b : goal.invariant-loop-b
invariant-loop-b l = ThinnedTo (stays l.keep) l.initial.levels (64 * l.b) l.levels
