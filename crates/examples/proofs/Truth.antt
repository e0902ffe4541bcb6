-- Connectives of tests, and what a test that came out true says of its parts.
-- Assumes nothing.
use mathlib.Core.Path.{◌≡◌, refl}
use mathlib.Core.Logic.{◌⊎◌, inl, inr}
use mathlib.Core.Bool.{Bool, true, false}
use Prim.Native.Nat.{ℕ}
use native.Mathlib.Omega.{arith}

pub never : false ≡ true → ⊥
never t = let z : ◌≡◌ {A = ℕ} 0 1 = cc in omega arith

unfoldable pub both : Bool → Bool → Bool
both true b = b
both false b = false

unfoldable pub either : Bool → Bool → Bool
either true b = true
either false b = b

unfoldable pub implies : Bool → Bool → Bool
implies true b = b
implies false b = true

pub both_is : (a b : Bool) → both a b ≡ true → (a ≡ true) × (b ≡ true)
unfolding both
both_is true b t = (refl, t)
both_is false b t = absurd (never t)

pub is_both : (a b : Bool) → a ≡ true → b ≡ true → both a b ≡ true
unfolding both
is_both true b s t = t
is_both false b s t = s

pub either_is : (a b : Bool) → either a b ≡ true → (a ≡ true) ⊎ (b ≡ true)
unfolding either
either_is true b t = inl refl
either_is false b t = inr t

pub is_either : (a b : Bool) → (a ≡ false → b ≡ true) → either a b ≡ true
unfolding either
is_either true b f = refl
is_either false b f = f refl

pub implied : (a b : Bool) → implies a b ≡ true → a ≡ true → b ≡ true
unfolding implies
implied true b t s = t
implied false b t s = absurd (never s)
