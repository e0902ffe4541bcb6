-- A still's pairs and its blocks': what is cheapest in each block is cheapest in all.
-- Assumes nothing.
use mathlib.Core.Path.{◌≡◌, refl, ap}
use Prim.Native.Nat.{ℕ, zero, suc, ◌≤◌, ◌<◌}
use native.Mathlib.Omega.{arith}
use native.Mathlib.Decide.{ℕ_discrete}
use Rattle.corners.specs.Pair.{Pair, cost}
use Rattle.corners.specs.Price.{Least, Wins}
use Rattle.corners.specs.Still.{total, Attains}

-- Pairs that are cheaper one by one are cheaper together.
sum_least : (a b n : ℕ) (f g : ℕ → Pair) → ((i : ℕ) → i < n → cost a b (f i) ≤ cost a b (g i)) → cost a b (total f n) ≤ cost a b (total g n)
sum_least a b zero f g h = omega arith
sum_least a b (suc n) f g h = omega (arith, sum_least a b n f g (λ i l. h i (omega arith)), h n (omega arith))

sum_fewest : (a b n : ℕ) (f g : ℕ → Pair) → ((i : ℕ) → i < n → cost a b (f i) ≤ cost a b (g i))
    → ((i : ℕ) → i < n → cost a b (g i) ≡ cost a b (f i) → (f i).bits ≤ (g i).bits)
    → cost a b (total g n) ≤ cost a b (total f n) → (total f n).bits ≤ (total g n).bits
sum_fewest a b zero f g h t e = omega arith
sum_fewest a b (suc n) f g h t e =
    let r = sum_least a b n f g (λ i l. h i (omega arith)) in
    let s = h n (omega arith) in
    let u = sum_fewest a b n f g (λ i l. h i (omega arith)) (λ i l. t i (omega arith)) (omega arith) in
    let v = t n (omega arith) (omega arith) in
    omega arith

module _ (A : ℕ → Pair → Type 0) (n : ℕ) where
  pub total_least : (a b : ℕ) (C : ℕ → Pair) → ((i : ℕ) → i < n → Least (A i) a b (C i)) → Least (Attains A n) a b (total C n)
  total_least a b C h X x = rw x.adds (sum_least a b n C x.pick (λ i l. h i l (x.pick i) (x.each i l)))

  pub total_wins : (a b : ℕ) (C : ℕ → Pair) → ((i : ℕ) → i < n → Wins (A i) a b (C i)) → Wins (Attains A n) a b (total C n)
  total_wins a b C h = record {
    attained = record { pick = C; each = λ i l. (h i l).attained; adds = refl };
    least = total_least a b C (λ i l. (h i l).least);
    fewest = λ X x e. let d = ap (cost a b) x.adds in let f = ap (λ (Q : Pair). Q.bits) x.adds in
        omega (
          arith,
          sum_fewest a b n C x.pick
              (λ i l. (h i l).least (x.pick i) (x.each i l))
              (λ i l. (h i l).fewest (x.pick i) (x.each i l)) (omega arith),
        );
  }

-- The sum grows where one part grows and none falls.
sum_grows : (n : ℕ) (f g : ℕ → Pair) → ((i : ℕ) → i < n → (f i).bits ≤ (g i).bits) → (total f n).bits ≤ (total g n).bits
sum_grows zero f g h = omega arith
sum_grows (suc n) f g h = omega (arith, sum_grows n f g (λ i l. h i (omega arith)), h n (omega arith))

pub sum_more : (n : ℕ) (f g : ℕ → Pair) → ((i : ℕ) → i < n → (f i).bits ≤ (g i).bits)
    → (k : ℕ) → k < n → (f k).bits < (g k).bits → (total f n).bits < (total g n).bits
sum_more zero f g h k l m = omega arith
sum_more (suc n) f g h k l m = go (ℕ_discrete k n) (sum_more n f g (λ i l. h i (omega arith)) k)
  where
    go : Dec (k ≡ n) → (k < n → (f k).bits < (g k).bits → (total f n).bits < (total g n).bits)
        → (total f (suc n)).bits < (total g (suc n)).bits
    go (yes e) r =
        let p = ap (λ (i : ℕ). (f i).bits) e in
        let q = ap (λ (i : ℕ). (g i).bits) e in
        omega (arith, sum_grows n f g (λ i l. h i (omega arith)))
    go (no u) r = omega (arith, r (omega arith) m, h n (omega arith))

-- Sums of equal pairs are equal.
pub total_same : (f g : ℕ → Pair) (n : ℕ) → ((i : ℕ) → i < n → f i ≡ g i) → total f n ≡ total g n
total_same f g zero h = refl
total_same f g (suc n) h =
    let s = total_same f g n (λ i l. h i (omega arith)) in
    let e = h n (omega arith) in
    cc
