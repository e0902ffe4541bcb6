-- A level as it is read from its bits.
-- Assumes nothing.
use mathlib.Core.Path.{◌≡◌, refl, sym, ap, ◌∙◌}
use mathlib.Core.List.{List}
use Prim.Native.Nat.{ℕ, zero, suc, ◌≤◌, ◌<◌}
use native.Mathlib.Omega.{arith}
use lib.IntN.{ℤ, pos, negsuc, nat_abs}
use lib.ListN.{get_or}
use mir.Syntax.{w16}
use mir.Val.{SFits, to_z, of_z}
use Rattle.block.specs.Level.{ac_level}
use Rattle.block.specs.Limits.{Levels}
use Rattle.block.proofs.Level.{back}

in_range : (z : ℤ) → nat_abs z ≤ 1023 → SFits w16 z
in_range (pos n) h = record { sfits = omega arith }
in_range (negsuc n) h = record { sfits = omega arith }

other_bits : (z : ℤ) → (of_z w16 z ≡ 0 → ⊥) → 0 < nat_abs z
other_bits (pos zero) h = absurd (h refl)
other_bits (pos (suc n)) h = omega arith
other_bits (negsuc n) h = omega arith

module _ {levels : List ℤ} (l : Levels levels) where
  pub zero_level : (k : ℕ) → of_z w16 (get_or levels k (pos 0)) ≡ 0 → ac_level levels k ≡ 0
  zero_level zero e = refl
  zero_level (suc k) e = ap nat_abs (sym (back (in_range (get_or levels (suc k) (pos 0)) (l.most (suc k)))) ∙ ap (to_z w16) e)

  pub other_level : (k : ℕ) → 0 < k → (of_z w16 (get_or levels k (pos 0)) ≡ 0 → ⊥) → 0 < ac_level levels k
  other_level zero h n = absurd (omega arith)
  other_level (suc k) h n = other_bits (get_or levels (suc k) (pos 0)) n

  -- the magnitude of what is read
  pub level_is : (k : ℕ) → 0 < k → nat_abs (to_z w16 (of_z w16 (get_or levels k (pos 0)))) ≡ ac_level levels k
  level_is zero h = absurd (omega arith)
  level_is (suc k) h = ap nat_abs (back (in_range (get_or levels (suc k) (pos 0)) (l.most (suc k))))
