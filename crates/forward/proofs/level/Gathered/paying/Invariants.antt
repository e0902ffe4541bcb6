-- `forward::level::Gathered::paying` meets its contract: every level passed is cut.
use Rattle.std.proofs.Common.{◌-◌}
use Rattle.forward.specs.Cutting.{Cut}
use Rattle.forward.proofs.level.Gathered.paying.Given as goal

abbrev pub invariant-loop-k : goal.invariant-loop-k
invariant-loop-k l = Cut l.rates.price.a l.least l.self (l.k - 1)
