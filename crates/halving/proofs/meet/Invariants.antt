-- `halving::meet` meets its contract: both bounds stay inside the range.
use Rattle.std.proofs.Common.{◌-◌, ◌≤◌, ◌<◌}
use Rattle.halving.proofs.meet.Given as goal

abbrev pub invariant-loop-fits : goal.invariant-loop-fits
invariant-loop-fits l = (l.low.price ≤ l.passes) × (l.passes < l.fits) × (l.fits < l.high.price)

abbrev pub decreases-loop-fits : goal.decreases-loop-fits
decreases-loop-fits l = l.fits - l.passes
