-- `forward::nodes::Nodes::fill` meets its contract: each turn adds the node of one level to those below it.
use Prim.Native.Nat.{◌+◌}
use mathlib.Core.Path.{◌≡◌}
use native.Mathlib.Omega.{arith}
use Rattle.forward.proofs.Scanning.{reach_bit}
use Rattle.forward.proofs.Forgetting.{beaten_start, beaten_next}
use Rattle.forward.proofs.Node.{earliest_under, earliest_most}
use Rattle.forward.proofs.Filling.{gain_most, filled_start, filled_reach, filled_behind, filled_reduces, filled_next}
use Rattle.forward.proofs.nodes.Nodes.fill.Goals as goal

pub least-way-requires-clause-reach : goal.least-way-requires-clause-reach
least-way-requires-clause-reach c = filled_reach c.args.rates.now.price.accepted c.requires c.loop-i.invariant.filled c.loop-i.auto.i (omega arith)

pub least-way-requires-clause-behind : goal.least-way-requires-clause-behind
least-way-requires-clause-behind c = filled_behind c.args.rates.now.price.accepted c.requires c.loop-i.invariant.filled c.loop-i.auto.i (omega arith) c.loop-i.invariant.beaten

pub reduced-requires : goal.reduced-requires
reduced-requires c = record {
  cost_most = earliest_most c.least-way.ensures;
  gain_most = gain_most c.requires c.args.rates.now.price.accepted _ c.loop-i.auto.i (omega arith);
  within = filled_reduces c.args.rates.now.price.accepted c.requires c.loop-i.invariant.filled c.loop-i.auto.i (omega arith) c.least-way.ensures;
}

pub overflow_add-next : goal.overflow_add-next
overflow_add-next c =
    omega (
      arith,
      reach_bit (filled_reach c.args.rates.now.price.accepted c.requires c.loop-i.invariant.filled c.loop-i.auto.i (omega arith)) c.args.rates.now.table.now _ (earliest_under c.loop-i.auto.i c.least-way.ensures),
    )

pub loop-i-init : goal.loop-i-init
loop-i-init c = rw c.put.ensures (record { filled = filled_start c.args.self.now _ c.requires (record { place = omega arith; cost = omega arith; sum = omega arith; pred = omega arith }) c.cost.ensures; beaten = beaten_start })

pub loop-i-preserved : goal.loop-i-preserved
loop-i-preserved c = rw c.put-in-loop-i.ensures (record {
  filled = filled_next c.args.rates.now.price.accepted c.requires c.loop-i.invariant.filled c.loop-i.auto.i (omega arith) c.least-way.ensures (record { none = c.reduced.ensures.none; some = c.reduced.ensures.some }) (record { place = omega arith; cost = omega arith; sum = omega arith; pred = omega arith });
  beaten = beaten_next _ c.loop-i.invariant.beaten (rw c.put-in-loop-i.ensures at c.forget-low.ensures);
})

pub returns-clause-filled : goal.returns-clause-filled
returns-clause-filled c = let e : c.args.count + 1 ≡ c.loop-i.i = omega arith in rw e c.loop-i.invariant.filled
