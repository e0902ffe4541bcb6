-- The starred examples hold: each row by a test over every choice of its block, or over every pair that its still attains.
-- Assumes nothing.
use mathlib.Core.Path.{◌≡◌, refl}
use mathlib.Core.Bool.{Bool, true}
use mathlib.Core.List.{List, [], ◌∷◌}
use borrow.Author.Tests.{eqb-true}
use lib.Dec.{eqb}
use Rattle.block.specs.First.{first_from, first_below}
use Rattle.block.specs.Level.{fits_size, size_of}
use Rattle.block.specs.Choice.{bits, error, keep_number}
use Rattle.examples.specs.Example.{Example, takes, keeps, uncodable, lists, no_corner, fits, none_fits, Holds, AllHold}
use Rattle.examples.specs.Table.{tens, table}
use Rattle.examples.proofs.Truth.{both, either, implies, both_is}
use Rattle.examples.proofs.Members.{all, any, each, each_at}
use Rattle.examples.proofs.Choices.{codes}
use Rattle.examples.proofs.Trying.{same, takesb, takes_by, bestb, best_by, noneb, none_by}
use Rattle.examples.proofs.Sums.{crossed, sums}
use Rattle.examples.proofs.Finding.{steepest, behind}
use Rattle.examples.proofs.Stops.{onb, listsb, lists_by, no_cornerb, no_corner_by, fitsb, fits_by, none_fitsb, none_fits_by}

abbrev holds : Example → Bool
holds (takes B c n e) = each (takesb B c ∷ eqb (bits B 0 c) n ∷ eqb (error B 0 c) e ∷ [])
holds (keeps B a b c k) = each (bestb B a b c ∷ eqb (keep_number c) k ∷ [])
holds (uncodable B) = noneb B
holds (lists Bs L) = listsb Bs L
holds (no_corner Bs P) = no_cornerb Bs P
holds (fits Bs budget P) = fitsb Bs budget P
holds (none_fits Bs budget m) = none_fitsb Bs budget m

holds_by : (x : Example) → holds x ≡ true → Holds x
holds_by (takes B c n e) t = let u = each_at _ t in (takes_by B c (u 0), eqb-true _ _ (u 1), eqb-true _ _ (u 2))
holds_by (keeps B a b c k) t = let u = each_at _ t in (best_by B a b c (u 0), eqb-true _ _ (u 1))
holds_by (uncodable B) t = none_by B t
holds_by (lists Bs L) t = lists_by Bs L t
holds_by (no_corner Bs P) t = no_corner_by Bs P t
holds_by (fits Bs budget P) t = fits_by Bs budget P t
holds_by (none_fits Bs budget m) t = none_fits_by Bs budget m t

all_by : (xs : List Example) → all holds xs ≡ true → AllHold xs
unfolding all
all_by [] t = tt
all_by (x ∷ xs) t = (holds_by x (both_is _ _ t).0, all_by xs (both_is _ _ t).1)

pub starred : AllHold table
unfolding tens table all any both either implies same codes crossed sums onb listsb steepest behind size_of fits_size first_below first_from
starred = all_by table refl
