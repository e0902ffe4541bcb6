-- `still::check_table` meets its contract: the count says which case holds, and at the right count the first index does.
-- Assumes nothing.
use Rattle.std.proofs.Common.{sym, ◌∙◌}
use Rattle.std.proofs.lemmas.Bool.{eq-eqb, ne_eqb}
use Rattle.answers.specs.Said.{number_of, refuse}
use Rattle.still.specs.Refusals.{table_check}
use Rattle.still.proofs.First.{when_first_none, when_first_some}
use Rattle.still.proofs.check_table.Goals as goal

pub returns-then-values : goal.returns-then-values
unfolding table_check
returns-then-values g c = simp (c.new.ensures, ne_eqb _ _ c.if-values.true)

pub returns-in-Some : goal.returns-in-Some
unfolding table_check
returns-in-Some g c = simp (c.new-in-Some.ensures, eq-eqb _ _ c.if-values.false) (when_first_some _ _ (λ i. refuse (number_of c.args.kind) i 0) _ (rw c.if-values.false at (sym c.in-Some.is ∙ c.first_outside.ensures)))

pub returns-in-None : goal.returns-in-None
unfolding table_check
returns-in-None g c = simp (eq-eqb _ _ c.if-values.false) (when_first_none _ _ (λ i. refuse (number_of c.args.kind) i 0) (rw c.if-values.false at (sym c.in-None.is ∙ c.first_outside.ensures)))
