-- What making a price answers is what the check of its two numbers says.
-- Assumes nothing.
use Rattle.std.specs.Prelude.{◌≡◌, Result, Ok, Err, ℕ}
use mathlib.Core.Path.{refl, sym, ap, ◌∙◌}
use Rattle.price.specs.Price.{outside, number_of, outside_told}
use Rattle.price.specs.declared.Price as P
use Rattle.price.specs.declared.OutOfRange as O
use Rattle.price.specs.declared.OutOfRange.TheVariants as out
use Rattle.answers.specs.Said.{fine, refuse}
use Rattle.still.specs.Refusals.{price_check}

module _ (a b : ℕ) {r : Result P.Price O.OutOfRange} (told : outside_told r ≡ outside a b) where
  pub range_ok : {p : P.Price} → r ≡ Ok p → price_check a b ≡ fine
  unfolding price_check
  range_ok e = let none : outside a b ≡ 0 = sym told ∙ ap outside_told e in rw none refl

  pub range_err : (o : O.OutOfRange) → r ≡ Err o → price_check a b ≡ refuse 4 (number_of o) 0
  unfolding price_check
  range_err out.OnError e = let which : outside a b ≡ 1 = sym told ∙ ap outside_told e in rw which refl
  range_err out.OnBits e = let which : outside a b ≡ 2 = sym told ∙ ap outside_told e in rw which refl
