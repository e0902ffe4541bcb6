-- A corner is a sum of its blocks' pairs in one way only: each of them is strictly cheapest in its block.
-- Assumes nothing.
use mathlib.Core.Path.{◌≡◌, refl, ap, sym}
use Prim.Native.Nat.{ℕ, zero, suc, ◌+◌, ◌*◌, ◌≤◌, ◌<◌}
use native.Mathlib.Omega.{arith}
use native.Mathlib.Decide.{ℕ_discrete}
use Rattle.corners.specs.Pair.{Pair, cost}
use Rattle.corners.specs.Corner.{Corner}
use Rattle.corners.specs.Still.{total, Attains}
use Rattle.corners.proofs.Corners.{pair_path, pair_dec}

-- One pick changed: block k's becomes `R`.
changed_by : {i k : ℕ} → Dec (i ≡ k) → Pair → Pair → Pair
changed_by (yes e) R Q = R
changed_by (no n) R Q = Q

changed : (ℕ → Pair) → ℕ → Pair → ℕ → Pair
changed f k R i = changed_by (ℕ_discrete i k) R (f i)

module _ (f : ℕ → Pair) (k : ℕ) (R : Pair) where
  there : (i : ℕ) → i ≡ k → changed f k R i ≡ R
  unfolding changed changed_by
  there i e = go (ℕ_discrete i k)
    where
      go : (d : Dec (i ≡ k)) → changed_by d R (f i) ≡ R
      go (yes p) = refl
      go (no n) = absurd (n e)

  elsewhere : (i : ℕ) → ¬ (i ≡ k) → changed f k R i ≡ f i
  unfolding changed changed_by
  elsewhere i n = go (ℕ_discrete i k)
    where
      go : (d : Dec (i ≡ k)) → changed_by d R (f i) ≡ f i
      go (yes p) = absurd (n p)
      go (no m) = refl

  before : (n : ℕ) → n ≤ k → ((total (changed f k R) n).bits ≡ (total f n).bits) × ((total (changed f k R) n).error ≡ (total f n).error)
  before zero l = (refl, refl)
  before (suc n) l =
      let e = elsewhere n (omega arith) in
      let p = ap (λ (Q : Pair). Q.bits) e in
      let q = ap (λ (Q : Pair). Q.error) e in
      omega (arith, before n (omega arith))

  -- The sum with the changed pick, and the old pick, are the old sum and the new pick.
  after : (n : ℕ) → k < n → ((total (changed f k R) n).bits + (f k).bits ≡ (total f n).bits + R.bits)
      × ((total (changed f k R) n).error + (f k).error ≡ (total f n).error + R.error)
  after zero l = omega arith
  after (suc n) l = go (ℕ_discrete n k) (after n)
    where
      go : Dec (n ≡ k) → (k < n → ((total (changed f k R) n).bits + (f k).bits ≡ (total f n).bits + R.bits)
          × ((total (changed f k R) n).error + (f k).error ≡ (total f n).error + R.error))
          → ((total (changed f k R) (suc n)).bits + (f k).bits ≡ (total f (suc n)).bits + R.bits)
          × ((total (changed f k R) (suc n)).error + (f k).error ≡ (total f (suc n)).error + R.error)
      go (yes e) r =
          let t = there n e in
          let p = ap (λ (Q : Pair). Q.bits) t in
          let q = ap (λ (Q : Pair). Q.error) t in
          let u = ap (λ (i : ℕ). (f i).bits) e in
          let v = ap (λ (i : ℕ). (f i).error) e in
          omega (arith, before n (omega arith))
      go (no m) r =
          let t = elsewhere n m in
          let p = ap (λ (Q : Pair). Q.bits) t in
          let q = ap (λ (Q : Pair). Q.error) t in
          omega (arith, r (omega arith))

module _ {A : ℕ → Pair → Type 0} {n : ℕ} {P : Pair} (c : Corner (Attains A n) P) where
  -- In each block a corner's pick is strictly cheapest, at the same price.
  block_corner : (x : Attains A n P) (k : ℕ) → k < n
      → (X : Pair) → A k X → ¬ (X ≡ x.pick k) → cost c.a c.b (x.pick k) < cost c.a c.b X
  block_corner x k l X y m =
      let f = x.pick in
      let s = after f k X n l in
      let p = ap (λ (Q : Pair). Q.bits) x.adds in
      let q = ap (λ (Q : Pair). Q.error) x.adds in
      let d = c.cheaper (total (changed f k X) n) (record { pick = changed f k X; each = each; adds = refl })
      (λ e. m (pair_path X (f k) (omega (arith, ap (λ (Q : Pair). Q.bits) e)) (omega (arith, ap (λ (Q : Pair). Q.error) e)))) in
      omega (arith, ap (λ (j : ℕ). c.b * j) p, ap (λ (j : ℕ). c.a * j) q, ap (λ (j : ℕ). c.b * j) s.0, ap (λ (j : ℕ). c.a * j) s.1)
    where
      each : (i : ℕ) → i < n → A i (changed x.pick k X i)
      each i h = go (ℕ_discrete i k)
        where
          go : Dec (i ≡ k) → A i (changed x.pick k X i)
          go (yes e) = rw (there x.pick k X i e) (rw e y)
          go (no u) = rw (elsewhere x.pick k X i u) (x.each i h)

  -- So a corner is a sum in one way only.
  pub one_way : (x y : Attains A n P) (k : ℕ) → k < n → x.pick k ≡ y.pick k
  one_way x y k l = go (pair_dec (x.pick k) (y.pick k))
    where
      go : Dec (x.pick k ≡ y.pick k) → x.pick k ≡ y.pick k
      go (yes e) = e
      go (no m) = absurd (omega (
        arith,
        block_corner x k l (y.pick k) (y.each k l) (λ e. m (sym e)),
        block_corner y k l (x.pick k) (x.each k l) m,
      ))
