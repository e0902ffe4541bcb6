-- `forward::nodes::Nodes::find` meets its contract: the best way from a node to the end of block is the best choice, and
-- the levels that are cut are in no best choice.
use native.Mathlib.Omega.{arith}
use Rattle.forward.specs.Given.{cut, Job}
use Rattle.forward.proofs.Scanning.{reach_bit}
use Rattle.forward.proofs.Cutting.{cut_job, cut_decided}
use Rattle.forward.proofs.Node.{earliest_under}
use Rattle.forward.proofs.Filling.{search_reach, search_behind, search_none, search_backed, search_best}
use Rattle.forward.proofs.nodes.Nodes.find.Goals as goal
use Rattle.forward.proofs.nodes.Nodes.find.Goals.{After-paying-count}

job : (t : After-paying-count) → Job t.args.rates.now.table.now (cut t.args.block.now t.paying-count.result)
job t = cut_job _ _ t.paying-count.ensures t.requires

pub fill-low-requires : goal.fill-low-requires
fill-low-requires c = job (goal.at.fill-low-requires c).After-paying-count

pub least-way-requires-clause-reach : goal.least-way-requires-clause-reach
least-way-requires-clause-reach c = search_reach c.args.rates.now.price.accepted c.fill-low.ensures.filled (job (goal.at.least-way-requires-clause-reach c).After-paying-count)

pub least-way-requires-clause-behind : goal.least-way-requires-clause-behind
least-way-requires-clause-behind c = search_behind c.args.rates.now.price.accepted c.fill-low.ensures.filled (job (goal.at.least-way-requires-clause-behind c).After-paying-count) c.fill-low.ensures.beaten

pub returns-then-way-eq-FAR : goal.returns-then-way-eq-FAR
returns-then-way-eq-FAR c = cut_decided _ _ c.paying-count.ensures (search_none c.args.rates.now.price.accepted c.fill-low.ensures.filled c.least-way.ensures c.if-way-eq-FAR.true)

pub overflow_add-bits : goal.overflow_add-bits
overflow_add-bits c =
    omega (
      arith,
      reach_bit (search_reach c.args.rates.now.price.accepted c.fill-low.ensures.filled (job (goal.at.overflow_add-bits c).After-paying-count)) c.args.rates.now.table.now _ (earliest_under (omega arith) c.least-way.ensures),
    )

pub walk-requires : goal.walk-requires
walk-requires c = search_backed c.args.rates.now.price.accepted c.fill-low.ensures.filled c.least-way.ensures (job (goal.at.walk-requires c).After-paying-count) c.if-way-eq-FAR.false

pub returns : goal.returns
returns c = cut_decided _ _ c.paying-count.ensures (search_best c.args.rates.now.price.accepted c.fill-low.ensures.filled c.least-way.ensures c.if-way-eq-FAR.false c.walk.ensures)
