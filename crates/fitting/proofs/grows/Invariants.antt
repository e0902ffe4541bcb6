-- `fitting::grows` meets its contract: the sum is the growth of the ways passed.
use Rattle.std.proofs.Common.{◌≡◌, ◌*◌, ◌≤◌}
use Rattle.block.specs.Limits.{most_bits}
use Rattle.fitting.specs.Fitting.{grown_by}
use Rattle.fitting.proofs.grows.Given as goal

abbrev pub invariant-loop-way : goal.invariant-loop-way
invariant-loop-way l = (l.more ≡ grown_by l.along l.ways l.way-index) × (l.more ≤ most_bits * l.way-index)
