-- Tests over the members of a list, and what a test that came out true says of each.
-- Assumes nothing.
use mathlib.Core.Path.{◌≡◌, refl, sym, subst}
use mathlib.Core.Logic.{inl, inr}
use mathlib.Core.Bool.{Bool, true, false}
use mathlib.Core.List.Memᴰ
use mathlib.Core.List.{List, [], ◌∷◌, Memᴰ}
use Prim.Native.Nat.{ℕ, zero, suc}
use lib.ListN.{get_or}
use Rattle.block.specs.First.{pick}
use Rattle.examples.proofs.Truth.{both, either, both_is, either_is, never}

module _ {A : Type 0} (p : A → Bool) where
  unfoldable pub all : List A → Bool
  all [] = true
  all (x ∷ l) = both (p x) (all l)

  pub all_at : (l : List A) → all l ≡ true → {x : A} → Memᴰ x l → p x ≡ true
  unfolding all
  all_at [] t m = absurd (Memᴰ.not-nil m)
  all_at (y ∷ l) t {x} m = elim (Memᴰ.cases_cons m) [
    | inl e ↦ subst (λ (z : A). p z ≡ true) (sym e) (both_is _ _ t).0
    | inr n ↦ all_at l (both_is _ _ t).1 n
  ]

  unfoldable pub any : List A → Bool
  any [] = false
  any (x ∷ l) = either (p x) (any l)

  pub any_is : (l : List A) → any l ≡ true → (x : A) × Memᴰ x l × (p x ≡ true)
  unfolding any
  any_is [] t = absurd (never t)
  any_is (y ∷ l) t = elim (either_is _ _ t) [
    | inl h ↦ (y, Memᴰ.head refl, h)
    | inr h ↦ let r = any_is l h in (r.0, Memᴰ.tail r.1, r.2)
  ]

-- several tests at once, and the i-th of them
abbrev pub each : List Bool → Bool
each l = all (λ b. b) l

pub each_at : (l : List Bool) → each l ≡ true → (i : ℕ) → get_or l i true ≡ true
unfolding all
each_at [] t i = refl
each_at (b ∷ l) t zero = (both_is _ _ t).0
each_at (b ∷ l) t (suc i) = each_at l (both_is b _ t).1 i

-- of a list that stands only where a test passes
pub in_picked : {A : Type 0} {x : A} (b : Bool) (l : List A) → Memᴰ x (pick b l []) → (b ≡ true) × Memᴰ x l
in_picked true l m = (refl, m)
in_picked false l m = absurd (Memᴰ.not-nil m)
