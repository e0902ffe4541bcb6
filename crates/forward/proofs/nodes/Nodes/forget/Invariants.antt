-- `forward::nodes::Nodes::forget` meets its contract: every node passed costs more than node i and what a longer run saves.
use Rattle.std.proofs.Common.{◌-◌}
use Rattle.forward.specs.Scanning.{Forgot}
use Rattle.forward.proofs.nodes.Nodes.forget.Given as goal

abbrev pub invariant-loop-k : goal.invariant-loop-k
invariant-loop-k l = Forgot l.rates.price.b l.rates.table.now.bits l.self l.fn.low l.fn.i l.k

abbrev pub decreases-loop-k : goal.decreases-loop-k
decreases-loop-k l = l.fn.i - l.k
