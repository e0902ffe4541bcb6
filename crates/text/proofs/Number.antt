-- What `{}` writes for a number is the number in decimal: both take the fewest digits that hold it.
-- Assumes nothing.
use Rattle.std.proofs.Common.{◌≡◌, ℕ, zero, suc, ◌+◌, ◌*◌, ◌/◌, ◌%◌, ◌^◌, ◌<◌, ◌≤◌, List, [], ◌∷◌, ◌++◌, ap, ◌∙◌, arith, add-one, false, ltb, ◌⊎◌, inl, inr, decimal as written}
use Rattle.std.proofs.Math.Nat.{pow-suc, pow-le-pow_right, eq-or-lt_of_le, lt_of_not-le, le_of_suc-le-suc}
use Rattle.std.proofs.lemmas.Fmt.{decimal_by_steps}
use borrow.Author.Tests.{lt-ltb, le-ltb}
use Rattle.block.specs.First.{first_below}
use Rattle.block.proofs.First.{first_none, first_at}
use Rattle.text.specs.Text.{places, last_digits, decimal}

-- n + 1 digits hold n
roomy : (n : ℕ) → n < 10 ^ (n + 1)
roomy zero = omega arith
roomy (suc n) =
    let e : 10 ^ (suc n + 1) ≡ 10 ^ (n + 1) * 10 = ap (λ (k : ℕ). 10 ^ k) (add-one (suc n)) ∙ pow-suc 10 (suc n) ∙ ap (λ (k : ℕ). 10 ^ k * 10) (omega arith) in
    omega (arith, roomy n)

-- j + 1 digits hold n and j do not
record Held (n j : ℕ) : Type 0 where
  holds : n < 10 ^ (j + 1)
  fewer : 0 < j → 10 ^ j ≤ n

module _ {n j : ℕ} (h : Held n j) where
  not_over : n < j → ⊥
  not_over l = let p : 10 ^ (n + 1) ≤ 10 ^ j = pow-le-pow_right (omega arith) (omega arith) in omega (arith, roomy n, h.fewer (omega arith))

  too_few : (i : ℕ) → i < j → ltb n (10 ^ (i + 1)) ≡ false
  too_few i l = let p : 10 ^ (i + 1) ≤ 10 ^ j = pow-le-pow_right (omega arith) (omega arith) in le-ltb n (10 ^ (i + 1)) (omega (arith, h.fewer (omega arith)))

  first : first_below (λ k. ltb n (10 ^ (k + 1))) n ≡ j
  first = at (eq-or-lt_of_le (le_of_suc-le-suc (lt_of_not-le not_over)))
    where
      at : (j ≡ n) ⊎ (j < n) → first_below (λ k. ltb n (10 ^ (k + 1))) n ≡ j
      at (inl e) = first_none _ n (λ i l. too_few i (omega arith)) ∙ omega arith
      at (inr l) = first_at _ n j l too_few (lt-ltb _ _ h.holds)

-- one digit more for ten times as much
one_more : {n j : ℕ} → 10 ≤ n → Held (n / 10) j → Held n (suc j)
one_more {n} {j} l h = record {
  holds = rw (add-one (suc j), pow-suc 10 (suc j)) (omega (arith, rw (add-one j) at h.holds));
  fewer = λ m. rw (pow-suc 10 j) (at j h.fewer);
}
  where
    at : (j : ℕ) → (0 < j → 10 ^ j ≤ n / 10) → 10 ^ j * 10 ≤ n
    at zero f = omega arith
    at (suc j) f = omega (arith, f (omega arith))

-- digits that are as many as a number takes
record Fewest (n : ℕ) (digits : List ℕ) : Type 0 where
  more : ℕ
  held : Held n more
  are : digits ≡ last_digits (suc more) n

fewest : (n : ℕ) → n < 2 ^ 64 → Fewest n (written n)
unfolding last_digits
fewest = decimal_by_steps Fewest one next
  where
    one : (n : ℕ) → n < 10 → Fewest n ((48 + n) ∷ [])
    one n h = let e : n % 10 ≡ n = omega arith in record { more = 0; held = record { holds = omega arith; fewer = λ l. absurd (omega arith) }; are = rw e }

    next : (n : ℕ) (ds : List ℕ) → 10 ≤ n → Fewest (n / 10) ds → Fewest n (ds ++ ((48 + n % 10) ∷ []))
    next n ds h f = record { more = suc f.more; held = one_more h f.held; are = ap (λ (l : List ℕ). l ++ (48 + n % 10) ∷ []) f.are }

pub in_decimal : (n : ℕ) → n < 2 ^ 64 → written n ≡ decimal n
unfolding decimal places
in_decimal n h = let f = fewest n h in f.are ∙ ap (λ (j : ℕ). last_digits j n) (omega (arith, first f.held))
