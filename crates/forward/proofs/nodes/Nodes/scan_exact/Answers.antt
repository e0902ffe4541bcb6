-- `forward::nodes::Nodes::scan_exact` meets its contract: the loop holds the first of the nodes passed.
use native.Mathlib.Omega.{arith}
use Rattle.forward.specs.Scanning.{cost_at}
use Rattle.forward.proofs.Scanning.{far_below, cost_from_on, held_start, held_step, reach_cost}
use Rattle.forward.proofs.nodes.Nodes.scan_exact.Goals as goal

pub loop-j-preserved : goal.loop-j-preserved
loop-j-preserved c =
    held_step _ _ _ _ _ c.loop-j.invariant (rw (cost_from_on _ (cost_at _ _ _ _) _ c.loop-j.auto.j) (rw c.cost.ensures at c.met-first.ensures))

pub overflow_add-rank : goal.overflow_add-rank
overflow_add-rank c =
    omega (arith, reach_cost c.requires c.args.rates.now.table.now _ c.loop-j-test.true c.args.rates.now.price.b c.args.rates.now.price.accepted.b_high, c.cost.ensures)

pub loop-j-init : goal.loop-j-init
loop-j-init c = held_start _ _ _ (far_below _ _)
