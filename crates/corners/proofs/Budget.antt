-- What a budget gives: the corner before an edge that passes it, or the last corner.
-- Assumes nothing.
use mathlib.Core.Path.{◌≡◌, ap}
use Prim.Native.Nat.{ℕ, ◌≤◌, ◌<◌}
use native.Mathlib.Omega.{arith}
use native.Mathlib.Decide.{dec_le}
use Rattle.corners.specs.Pair.{Pair}
use Rattle.corners.specs.Price.{Least, Wins}
use Rattle.corners.specs.Corner.{Corner}
use Rattle.corners.specs.Fits.{Fits}
use Rattle.corners.proofs.Winner.{wins_corner}
use Rattle.corners.proofs.Edge.{none_between, none_behind}

-- `T` fits, and no corner above it does.
fits_below : {Att : Pair → Type 0} {T : Pair} → Corner Att T → (budget : ℕ) → T.bits ≤ budget
    → ((Q : Pair) → Corner Att Q → Q.bits ≤ budget → T.bits ≤ Q.bits → Q ≡ T) → Fits Att budget T
fits_below {Att} {T} c budget h none = record { corner = c; within = h; most = λ Q q l. go Q q l (dec_le Q.bits T.bits) }
  where
    go : (Q : Pair) → Corner Att Q → Q.bits ≤ budget → Dec (Q.bits ≤ T.bits) → Q.bits ≤ T.bits
    go Q q l (yes m) = m
    go Q q l (no m) = omega (arith, ap (λ (R : Pair). R.bits) (none Q q l (omega arith)))

-- `T` and `T'` are cheapest at one price, and the budget lies between them.
pub edge_fits : {Att : Pair → Type 0} {T : Pair} → Corner Att T → (a b : ℕ) → 1 ≤ a → Least Att a b T → (T' : Pair) → Att T' → Least Att a b T'
    → (budget : ℕ) → T.bits ≤ budget → budget < T'.bits → Fits Att budget T
edge_fits {Att} {T} c a b l here T' t' there budget h k =
    fits_below c budget h (λ Q q m g. none_between Att T c.attained a b T' l here t' there Q q g (omega arith))

-- The last corner fits.
pub last_fits : {Att : Pair → Type 0} {T : Pair} → Corner Att T → Least Att 1 0 T → (budget : ℕ) → T.bits ≤ budget → Fits Att budget T
last_fits {Att} {T} c here budget h = fits_below c budget h (λ Q q m g. none_behind Att T c.attained here Q q g)

pub free_fits : {Att : Pair → Type 0} {T : Pair} → Wins Att 1 0 T → (budget : ℕ) → T.bits ≤ budget → Fits Att budget T
free_fits w = last_fits (wins_corner (omega arith) w) w.least
