-- `forward::nodes::Nodes::scan` meets its contract: a least cost that is met once is the first whatever the bits are.
use native.Mathlib.Omega.{arith}
use Rattle.forward.specs.Scanning.{cost_at}
use Rattle.forward.proofs.Scanning.{far_below, cost_from_on, scan_start, scan_step, reach_cost}
use Rattle.forward.proofs.nodes.Nodes.scan.Goals as goal

pub loop-j-preserved : goal.loop-j-preserved
loop-j-preserved g c =
    scan_step _ _ _ _ c.loop-j.invariant (rw (cost_from_on _ (cost_at _ _ _ _) _ c.loop-j.auto.j) (rw c.cost.ensures at c.met-first.ensures))

pub overflow_add-cost : goal.overflow_add-cost
overflow_add-cost g c =
    omega (arith, reach_cost c.requires.reach c.args.rates.now.table.now _ c.loop-j-test.true c.args.rates.now.price.b c.args.rates.now.price.accepted.b_high, c.cost.ensures)

pub loop-j-init : goal.loop-j-init
loop-j-init g c = scan_start _ _ _ (far_below _ _)
