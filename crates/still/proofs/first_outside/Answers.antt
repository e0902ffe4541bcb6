-- `still::first_outside` meets its contract: the sweep says that no value is outside, or `position` which is the first.
-- Assumes nothing.
use Rattle.std.proofs.Common.{rules, tests, ◌∙◌}
use Rattle.std.proofs.lemmas.Iterator.{YieldsList-from_slice}
use Rattle.std.proofs.lemmas.Iterator.Search.{position_from_yields_List}
use Rattle.still.specs.Passed.{outside_range}
use Rattle.still.specs.Refusals.{outside_at}
use Rattle.still.proofs.First.{first_of_none, position_first}
use Rattle.still.proofs.first_outside.Goals as goal

pub returns-then-any_outside : goal.returns-then-any_outside
unfolding outside_at
returns-then-any_outside c =
    let a = c.args in
    position_from_yields_List (outside_range a.low a.high) _ _ c.position.result c.position.ensures.ran (YieldsList-from_slice a.values.now cc) (λ x b q k. search (rules, tests))
    ∙ position_first (outside_range a.low a.high) a.values.now 0

pub returns : goal.returns
returns c = first_of_none _ _ (c.any_outside.ensures c.if-any_outside.false)
