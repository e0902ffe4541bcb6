-- No corner lies between two pairs that are cheapest at one price, and none behind the least error.
-- Assumes nothing.
use mathlib.Core.Path.{◌≡◌, sym}
use Prim.Native.Nat.{ℕ, ◌≤◌, ◌<◌}
use native.Mathlib.Omega.{arith}
use Rattle.corners.specs.Pair.{Pair}
use Rattle.corners.specs.Price.{Least}
use Rattle.corners.specs.Corner.{Corner}
use Rattle.corners.proofs.Slopes.{between}
use Rattle.corners.proofs.Corners.{pair_dec, apart, no_better}

module _ (Att : Pair → Type 0) (T : Pair) (t : Att T) where
  pub none_between : (a b : ℕ) (T' : Pair) → 1 ≤ a → Least Att a b T → Att T' → Least Att a b T'
      → (P : Pair) → Corner Att P → T.bits ≤ P.bits → P.bits < T'.bits → P ≡ T
  none_between a b T' l here t' there P c h k = go (pair_dec T P)
    where
      go : Dec (T ≡ P) → P ≡ T
      go (yes e) = sym e
      go (no n) =
          absurd (between a b c.a c.b T.error P.error T'.error T.bits P.bits T'.bits
          l h (omega arith) (omega arith) (here P c.attained) (there P c.attained)
          (c.cheaper T t n) (c.cheaper T' t' (apart T' P (omega arith))))

  pub none_behind : Least Att 1 0 T → (P : Pair) → Corner Att P → T.bits ≤ P.bits → P ≡ T
  none_behind here P c h = sym (no_better c T t h (omega (arith, here P c.attained)))
