-- What halving the range of prices rests on: more on bits gives not more bits, and what wins at both ends wins between them.
-- Assumes nothing.
use mathlib.Core.Path.{◌≡◌, subst}
use Prim.Native.Nat.{ℕ, ◌≤◌, ◌<◌}
use native.Mathlib.Omega.{arith}
use native.Mathlib.Decide.{dec_le}
use Rattle.corners.specs.Pair.{Pair}
use Rattle.corners.specs.Price.{Wins}
use Rattle.corners.proofs.Slopes.{flat_tie, cone}
use Rattle.corners.proofs.Winner.{vertex_wins}

pub dearer_shorter : {Att : Pair → Type 0} {low high : ℕ} {P Q : Pair} → low < high → Wins Att 1 high P → Wins Att 1 low Q → P.bits ≤ Q.bits
dearer_shorter {Att} {low} {high} {P} {Q} l p q =
    flat_tie 1 high 1 low P.error Q.error P.bits Q.bits (omega arith) (p.least Q q.attained) (q.least P p.attained)

pub alike : {Att : Pair → Type 0} {low high : ℕ} {P : Pair} → Wins Att 1 low P → Wins Att 1 high P → (b : ℕ) → low ≤ b → b ≤ high → Wins Att 1 b P
alike {Att} {low} {high} {P} p q b l h = go (dec_le high b)
  where
    go : Dec (high ≤ b) → Wins Att 1 b P
    go (yes m) = let e : high ≡ b = omega arith in subst (λ (k : ℕ). Wins Att 1 k P) e q
    go (no m) = vertex_wins Att 1 high 1 b P p.attained (omega arith) q.least
        (λ X x. cone 1 high 1 low 1 b _ _ _ _ (omega arith) (omega arith) (omega arith) (q.least X x) (p.least X x))
