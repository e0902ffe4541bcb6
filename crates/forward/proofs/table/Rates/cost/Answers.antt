-- `forward::table::Rates::cost` meets its contract: a missing code costs FAR, and the product of another entry fits.
use mathlib.Core.Path.{sym, ◌∙◌}
use borrow.Author.Tests.{ne_eqb}
use Rattle.forward.proofs.Pricing.{priced_some, priced_none, full_priced}
use Rattle.forward.proofs.table.Rates.cost.Goals as goal

pub returns-then-this-ne0 : goal.returns-then-this-ne0
returns-then-this-ne0 g c = sym (full_priced c.args.self.now.table.now.bits c.args.self.now.price.b c.args.x (sym c.args.self.now.table.now.full_is ∙ (sym c.args.self.now.full_is ∙ c.requires.full (simp (ne_eqb g.row.FULL 0 c.if-this-ne0.true)))) c.requires.within)

pub returns-then-n-eq-NO : goal.returns-then-n-eq-NO
returns-then-n-eq-NO g c = sym (priced_none _ _ c.if-n-eq-NO.true)

pub returns : goal.returns
returns g c = sym (priced_some _ _ c.if-n-eq-NO.false)
