-- A corner among the attainable pairs: no other has both no more bits and no more error.
-- Assumes nothing.
use mathlib.Core.Path.{◌≡◌, ap}
use Prim.Native.Nat.{◌≤◌, ◌<◌}
use native.Mathlib.Omega.{arith}
use native.Mathlib.Decide.{dec_le, ℕ_discrete}
use native.Mathlib.Nat.{mul-le-mul_left, le_antisymm}
use Rattle.corners.specs.Pair.{Pair}
use Rattle.corners.specs.Corner.{Corner}

pub pair_path : (P Q : Pair) → P.bits ≡ Q.bits → P.error ≡ Q.error → P ≡ Q
pair_path P Q p q = λ i. record { bits = p i; error = q i }

pub pair_dec : (P Q : Pair) → Dec (P ≡ Q)
pair_dec P Q = go (ℕ_discrete P.bits Q.bits) (ℕ_discrete P.error Q.error)
  where
    go : Dec (P.bits ≡ Q.bits) → Dec (P.error ≡ Q.error) → Dec (P ≡ Q)
    go (yes p) (yes q) = yes (pair_path P Q p q)
    go (yes p) (no n) = no (λ e. n (ap (λ (R : Pair). R.error) e))
    go (no n) q = no (λ e. n (ap (λ (R : Pair). R.bits) e))

pub apart : (P Q : Pair) → ¬ (P.bits ≡ Q.bits) → ¬ (P ≡ Q)
apart P Q h e = h (ap (λ (R : Pair). R.bits) e)

module _ {Att : Pair → Type 0} {C : Pair} (c : Corner Att C) (X : Pair) (x : Att X) where
  pub no_better : X.bits ≤ C.bits → X.error ≤ C.error → X ≡ C
  no_better h k = go (pair_dec X C)
    where
      go : Dec (X ≡ C) → X ≡ C
      go (yes e) = e
      go (no n) = absurd (omega (arith, c.cheaper X x n, mul-le-mul_left c.a k, mul-le-mul_left c.b h))

  -- A corner has the least error of all attainable pairs with no more bits.
  pub corner_best : X.bits ≤ C.bits → C.error ≤ X.error
  corner_best h = go (dec_le C.error X.error)
    where
      go : Dec (C.error ≤ X.error) → C.error ≤ X.error
      go (yes p) = p
      go (no p) = omega (arith, ap (λ (Q : Pair). Q.error) (no_better h (omega arith)))

  -- And less error than those with fewer bits.
  pub corner_falls : X.bits < C.bits → C.error < X.error
  corner_falls h = go (dec_le X.error C.error)
    where
      go : Dec (X.error ≤ C.error) → C.error < X.error
      go (no p) = omega arith
      go (yes p) = absurd (omega (arith, ap (λ (Q : Pair). Q.bits) (no_better (omega arith) p)))

-- Two corners with as many bits are one.
pub same_corner : {Att : Pair → Type 0} {C D : Pair} → Corner Att C → Corner Att D → C.bits ≡ D.bits → C ≡ D
same_corner {Att} {C} {D} c d e =
    pair_path C D e (le_antisymm (corner_best c D d.attained (omega arith)) (corner_best d C c.attained (omega arith)))
