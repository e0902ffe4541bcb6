-- `forward::nodes::Nodes::walk` meets its contract: the loop follows the way back, and what it has added up is what the way
-- behind it gives.
use native.Mathlib.Omega.{arith}
use Rattle.forward.proofs.Walking.{Back, walking_safe, walking_next, walking_end, shifted}
use Rattle.forward.proofs.nodes.Nodes.walk.Goals as goal
use Rattle.forward.proofs.nodes.Nodes.walk.Goals.{In-loop-k}

abbrev back : (t : In-loop-k) → Back t.args.block.now.levels t.args.self.now t.loop-k.keep t.loop-k.error t.loop-k.k
back t = walking_safe t.loop-k.invariant t.requires t.loop-k-test.true

pub overflow_add-keep : goal.overflow_add-keep
overflow_add-keep c = omega (arith, (back (goal.at.overflow_add-keep c).In-loop-k).keep_most, shifted _ (c.requires.under _ c.loop-k.invariant.low))

pub overflow_sub-error : goal.overflow_sub-error
overflow_sub-error c = (back (goal.at.overflow_sub-error c).In-loop-k).error_most

pub loop-k-smaller : goal.loop-k-smaller
loop-k-smaller c = (back (goal.at.loop-k-smaller c).In-loop-k).pred_less

pub loop-k-preserved : goal.loop-k-preserved
loop-k-preserved c =
    walking_next c.loop-k.invariant (shifted _ (c.requires.under _ c.loop-k.invariant.low)) c.loop-k-test.true (back (goal.at.loop-k-preserved c).In-loop-k)

pub returns : goal.returns
returns c = walking_end c.loop-k.invariant _ c.loop-k-test.false
