-- Laws of the least number at which a test holds.
-- Assumes nothing.
use mathlib.Core.Path.{◌≡◌, refl, sym, ◌∙◌, subst}
use mathlib.Core.Bool.{Bool, true, false}
use Prim.Native.Nat.{ℕ, zero, suc, ◌+◌, ◌≤◌, ◌<◌}
use native.Mathlib.Nat.{add-zero, zero-add, add-suc, suc-add, eq-or-lt_of_le}
use mathlib.Core.Logic.{◌⊎◌, inl, inr}
use native.Mathlib.Omega.{arith}
use Rattle.block.specs.First.{pick, first_from, first_below}

-- the test fails at each of the n numbers from i
none : (f : ℕ → Bool) (i n : ℕ) → ((k : ℕ) → i ≤ k → k < i + n → f k ≡ false) → first_from f i n ≡ i + n
unfolding first_from
none f i zero h = omega arith
none f i (suc n) h = simp (h i (omega arith) (omega arith)) (none f (suc i) n (λ k l m. h k (omega arith) (omega arith)) ∙ omega arith)

hit : (f : ℕ → Bool) (i n j : ℕ) → j < n → ((k : ℕ) → i ≤ k → k < i + j → f k ≡ false) → f (i + j) ≡ true → first_from f i n ≡ i + j
unfolding first_from
hit f i zero j l h t = absurd (omega arith)
hit f i (suc n) zero l h t = simp (rw add-zero at t) (omega arith)
hit f i (suc n) (suc j) l h t =
    simp (h i (omega arith) (omega arith))
    (hit f (suc i) n j (omega arith) (λ k p q. h k (omega arith) (omega arith)) (rw (add-suc, ← suc-add) at t) ∙ omega arith)

pub first_none : (f : ℕ → Bool) (n : ℕ) → ((k : ℕ) → k < n → f k ≡ false) → first_below f n ≡ n
unfolding first_below
first_none f n h = none f 0 n (λ k _ l. h k (omega arith)) ∙ zero-add n

pub first_at : (f : ℕ → Bool) (n i : ℕ) → i < n → ((k : ℕ) → k < i → f k ≡ false) → f i ≡ true → first_below f n ≡ i
unfolding first_below
first_at f n i l h t = hit f 0 n i l (λ k _ m. h k (omega arith)) (subst (λ (m : ℕ). f m ≡ true) (sym (zero-add i)) t) ∙ zero-add i

module _ (f : ℕ → Bool) where
  most : (i n : ℕ) → first_from f i n ≤ i + n
  unfolding first_from
  most i zero = omega arith
  most i (suc n) = by (f i) (most (suc i) n)
    where
      by : (b : Bool) → first_from f (suc i) n ≤ suc i + n → pick b i (first_from f (suc i) n) ≤ i + suc n
      by true h = omega arith
      by false h = omega arith

  holds : (i n : ℕ) → first_from f i n < i + n → f (first_from f i n) ≡ true
  unfolding first_from
  holds i zero h = absurd (omega arith)
  holds i (suc n) h = by (f i) refl (λ l. holds (suc i) n l) h
    where
      by : (b : Bool) → f i ≡ b → (first_from f (suc i) n < suc i + n → f (first_from f (suc i) n) ≡ true)
          → pick b i (first_from f (suc i) n) < i + suc n → f (pick b i (first_from f (suc i) n)) ≡ true
      by true e r l = e
      by false e r l = r (omega arith)

  fails : (i n k : ℕ) → i ≤ k → k < first_from f i n → f k ≡ false
  unfolding first_from
  fails i zero k l h = absurd (omega arith)
  fails i (suc n) k l h = by (f i) refl (fails (suc i) n k) h
    where
      by : (b : Bool) → f i ≡ b → (suc i ≤ k → k < first_from f (suc i) n → f k ≡ false) → k < pick b i (first_from f (suc i) n) → f k ≡ false
      by true e r m = absurd (omega arith)
      by false e r m = at (eq-or-lt_of_le l) e (λ p. r p m)
        where
          at : (i ≡ k) ⊎ (i < k) → f i ≡ false → (suc i ≤ k → f k ≡ false) → f k ≡ false
          at (inl q) e r = subst (λ (j : ℕ). f j ≡ false) q e
          at (inr q) e r = r q

  pub first_most : (n : ℕ) → first_below f n ≤ n
  unfolding first_below
  first_most n = omega (arith, most 0 n)

  pub first_holds : (n : ℕ) → first_below f n < n → f (first_below f n) ≡ true
  unfolding first_below
  first_holds n h = holds 0 n (omega arith)

  pub first_fails : (n k : ℕ) → k < first_below f n → f k ≡ false
  unfolding first_below
  first_fails n k h = fails 0 n k (omega arith) h
