-- What a price gives is a corner: a slightly dearer price on bits makes it strictly cheapest.
-- Assumes nothing.
use mathlib.Core.Path.{◌≡◌, ap, sym}
use Prim.Native.Nat.{ℕ, suc, ◌+◌, ◌*◌, ◌≤◌, ◌<◌}
use native.Mathlib.Omega.{arith}
use native.Mathlib.Decide.{dec_le}
use native.Mathlib.Nat.{mul-le-mul_left, mul-le-mul_right, le_antisymm}
use Rattle.corners.specs.Pair.{Pair, cost}
use Rattle.corners.specs.Price.{Least, Wins}
use Rattle.corners.specs.Corner.{Corner}
use Rattle.corners.proofs.Slopes.{same_bits, flat_tie, left_pos, right_pos}
use Rattle.corners.proofs.Corners.{pair_path, pair_dec}

-- Equal bits and equal cost: the same pair.
pub tie : (a b : ℕ) (P X : Pair) → 1 ≤ a → X.bits ≡ P.bits → cost a b X ≡ cost a b P → X ≡ P
tie a b P X l e c =
    pair_path X P e (le_antisymm (same_bits a b _ _ _ _ l e (omega arith)) (same_bits a b _ _ _ _ l (sym e) (omega arith)))

-- `P` is cheapest at a steep price and at a flatter one.
module _ (Att : Pair → Type 0) (a b a' b' : ℕ) (P : Pair) (att : Att P) (steep : a * b' < b * a')
    (inward : Least Att a b P) (outward : Least Att a' b' P) where
  pub vertex_wins : Wins Att a' b' P
  vertex_wins = record {
    attained = att;
    least = outward;
    fewest = λ X x e. flat_tie a b a' b' P.error X.error P.bits X.bits steep (inward X x) (omega arith);
  }

  -- At the sum of the two prices nothing else is as cheap.
  vertex_only : (X : Pair) → Att X → cost (a + a') (b + b') X ≤ cost (a + a') (b + b') P → X ≡ P
  vertex_only X x h =
      let i = inward X x in
      let o = outward X x in
      let more = flat_tie a b a' b' P.error X.error P.bits X.bits steep i (omega arith) in
      let less = flat_tie a b a' b' X.error P.error X.bits P.bits steep (omega arith) o in
      tie a' b' P X (right_pos _ b a' steep) (omega arith) (omega arith)

  pub vertex_corner : Corner Att P
  vertex_corner = record {
    a = a + a';
    b = b + b';
    a_pos = omega (arith, right_pos _ b a' steep);
    b_pos = omega (arith, left_pos _ b a' steep);
    attained = att;
    cheaper = λ X x n. dearer X (dec_le (cost (a + a') (b + b') X) (cost (a + a') (b + b') P)) x n;
  }
    where
      dearer : (X : Pair) → Dec (cost (a + a') (b + b') X ≤ cost (a + a') (b + b') P) → Att X → ¬ (X ≡ P)
          → cost (a + a') (b + b') P < cost (a + a') (b + b') X
      dearer X (yes h) x n = absurd (n (vertex_only X x h))
      dearer X (no h) x n = omega arith

module _ {Att : Pair → Type 0} {a b : ℕ} {P : Pair} (l : 1 ≤ a) (w : Wins Att a b P) where
  pub wins_strictly : (M : ℕ) → P.bits < M → (X : Pair) → Att X → ¬ (X ≡ P) → cost (a * M) (b * M + 1) P < cost (a * M) (b * M + 1) X
  wins_strictly M s X x n = go (dec_le (cost a b X) (cost a b P))
    where
      more : cost a b X ≡ cost a b P → Dec (X.bits ≤ P.bits) → P.bits < X.bits
      more e (yes h) = absurd (n (tie a b P X l (omega (arith, w.fewest X x e)) e))
      more e (no h) = omega arith

      go : Dec (cost a b X ≤ cost a b P) → cost (a * M) (b * M + 1) P < cost (a * M) (b * M + 1) X
      go (no h) = let k : suc (cost a b P) ≤ cost a b X = omega arith in omega (arith, mul-le-mul_left M k)
      go (yes h) =
          let e : cost a b X ≡ cost a b P = omega (arith, w.least X x) in
          omega (arith, ap (λ (k : ℕ). M * k) e, more e (dec_le _ _))

  pub wins_dearer : (M : ℕ) → P.bits < M → Least Att (a * M) (b * M + 1) P
  wins_dearer M s X x = go (pair_dec X P)
    where
      go : Dec (X ≡ P) → cost (a * M) (b * M + 1) P ≤ cost (a * M) (b * M + 1) X
      go (yes e) = omega (arith, ap (cost (a * M) (b * M + 1)) e)
      go (no n) = omega (arith, wins_strictly M s X x n)

  pub wins_corner : Corner Att P
  wins_corner = record {
    a = a * suc P.bits;
    b = b * suc P.bits + 1;
    a_pos = omega (arith, mul-le-mul_right (suc P.bits) l);
    b_pos = omega arith;
    attained = w.attained;
    cheaper = wins_strictly (suc P.bits) (omega arith);
  }
