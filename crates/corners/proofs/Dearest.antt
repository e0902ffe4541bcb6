-- A price on bits above every error gives the least attainable bits.
-- Assumes nothing.
use mathlib.Core.Path.{refl}
use Prim.Native.Nat.{ℕ, suc, ◌≤◌, ◌<◌}
use native.Mathlib.Omega.{arith}
use native.Mathlib.Decide.{dec_le}
use native.Mathlib.Nat.{mul-le-mul_left}
use Rattle.corners.specs.Pair.{Pair, cost}
use Rattle.corners.specs.Price.{Least, Wins}
use Rattle.corners.specs.Still.{total, Attains}
use Rattle.corners.specs.Fits.{Fits, LeastBits}
use Rattle.corners.proofs.Sums.{total_least}

-- One bit more costs more than all error.
block_fewest : (A : Pair → Type 0) (D : ℕ) (C : Pair) → ((X : Pair) → A X → X.error < D) → Least A 1 D C → Least A 0 1 C
block_fewest A D C small h X x = go (dec_le C.bits X.bits)
  where
    go : Dec (C.bits ≤ X.bits) → cost 0 1 C ≤ cost 0 1 X
    go (yes l) = omega arith
    go (no l) = let k : suc X.bits ≤ C.bits = omega arith in omega (arith, small X x, h X x, mul-le-mul_left D k)

pub dearest_fewest : (A : ℕ → Pair → Type 0) (n D : ℕ) (C : ℕ → Pair) → ((i : ℕ) → i < n → (X : Pair) → A i X → X.error < D)
    → ((i : ℕ) → i < n → Wins (A i) 1 D (C i)) → Least (Attains A n) 0 1 (total C n)
dearest_fewest A n D C small w = total_least A n 0 1 C (λ i l. block_fewest (A i) D (C i) (small i l) (w i l).least)

pub least_bits : {Att : Pair → Type 0} (T : Pair) → Att T → Least Att 0 1 T → LeastBits Att T.bits
least_bits T t h = record { pair = T; attained = t; bits = refl; least = λ X x. omega (arith, h X x) }

-- A budget that some corner fits is not below the least bits.
pub fits_least : {Att : Pair → Type 0} {budget m : ℕ} {P : Pair} → Fits Att budget P → LeastBits Att m → m ≤ budget
fits_least {P = P} f m = omega (arith, f.within, m.least P f.corner.attained)
