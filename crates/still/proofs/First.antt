-- The first number at which a test holds: what it is where it is known, by `position` and by `find`, and what a check tells of it.
-- Assumes nothing.
use Rattle.std.proofs.Common.{◌≡◌, ℕ, ◌+◌, ◌-◌, ◌≤◌, ◌<◌, Bool, true, false, cond, ltb, List, length, get_or, Option, Some, None, MatchOption, position, ◌⊎◌, refl, ◌∙◌, subst, inl, inr, arith}
use Rattle.std.specs.List.{position_or_len}
use Rattle.std.proofs.lemmas.Bool.{cases_lt, lt-ltb, le-ltb, ltb-true, ltb-false}
use Rattle.std.proofs.lemmas.List.Sums.{fails_before_first, passes_at_first}
use Rattle.block.specs.First.{first_below}
use Rattle.block.proofs.First.{first_none, first_at, first_holds, first_fails}
use Rattle.answers.specs.Said.{Verdict, fine, when}
use Rattle.still.specs.Passed.{Passed, first_of}
use Rattle.still.specs.Refusals.{when_first}

-- the numbers below one, and those from it on
passed_on : {bad : ℕ → Bool} (from n : ℕ) → Passed bad from → ((k : ℕ) → from ≤ k → k < n → bad k ≡ false) → Passed bad n
passed_on from n before behind k h = elim (cases_lt k from) [ inl l ↦ before k l | inr l ↦ behind k l h ]

-- a stretch more
pub passed_more : {bad : ℕ → Bool} (from size to : ℕ) → to ≡ from + size → Passed bad from → ((k : ℕ) → k < size → bad (from + k) ≡ false) → Passed bad to
passed_more {bad} from size to e before next =
    passed_on from to before (λ k l h.
    let s : from + (k - from) ≡ k = omega arith in subst (λ (m : ℕ). bad m ≡ false) s (next (k - from) (omega arith)))

module _ (bad : ℕ → Bool) (n : ℕ) where
  pub first_of_none : Passed bad n → None ≡ first_of bad n
  unfolding first_of
  first_of_none none = rw (first_none bad n none, le-ltb n n (omega arith))

  pub first_of_at : (i : ℕ) → i < n → Passed bad i → bad i ≡ true → Some i ≡ first_of bad n
  unfolding first_of
  first_of_at i within before here = rw (first_at bad n i within before here, lt-ltb i n within)

  -- what `find` says of the numbers from one on, below which the test fails; it may look at another test, which agrees there
  pub first_of_found : (from : ℕ) (test : ℕ → Bool) (r : Option ℕ) → Passed bad from → ((k : ℕ) → from ≤ k → bad k ≡ test k)
      → MatchOption r ((k : ℕ) → from ≤ k → k < n → test k ≡ false) (λ i. (from ≤ i) × (i < n) × (test i ≡ true) × ((k : ℕ) → from ≤ k → k < i → test k ≡ false))
      → r ≡ first_of bad n
  first_of_found from test None before same m = first_of_none (passed_on from n before (λ k l h. same k l ∙ m k l h))
  first_of_found from test (Some i) before same m = first_of_at i m.1 (passed_on from i before (λ k l h. same k l ∙ m.3 k l h)) (same i m.0 ∙ m.2)

  -- a check that tells the first number, and one that has none to tell
  module _ (told : ℕ → Verdict) where
    pub when_first_none : None ≡ first_of bad n → fine ≡ when_first bad n told
    unfolding first_of
    when_first_none e = by (ltb (first_below bad n) n) e
      where
        by : (b : Bool) → None ≡ cond b (Some (first_below bad n)) None → fine ≡ when b (told (first_below bad n))
        by true e = cc
        by false e = refl

    pub when_first_some : (i : ℕ) → Some i ≡ first_of bad n → told i ≡ when_first bad n told
    unfolding first_of
    when_first_some i e = by (ltb (first_below bad n) n) e
      where
        by : (b : Bool) → Some i ≡ cond b (Some (first_below bad n)) None → told i ≡ when b (told (first_below bad n))
        by true e = cc
        by false e = cc

  -- and what it says of the test
  pub passed_where_none : None ≡ first_of bad n → Passed bad n
  unfolding first_of
  passed_where_none e = by (ltb (first_below bad n) n) refl e
    where
      by : (b : Bool) → ltb (first_below bad n) n ≡ b → None ≡ cond b (Some (first_below bad n)) None → Passed bad n
      by true t e = cc
      by false t e = λ k h. first_fails bad n k (omega (arith, ltb-false _ _ t))

  pub bad_where_some : (i : ℕ) → Some i ≡ first_of bad n → (i < n) × Passed bad i × (bad i ≡ true)
  unfolding first_of
  bad_where_some i e = by (ltb (first_below bad n) n) refl e
    where
      by : (b : Bool) → ltb (first_below bad n) n ≡ b → Some i ≡ cond b (Some (first_below bad n)) None → (i < n) × Passed bad i × (bad i ≡ true)
      by true t e =
          let within : first_below bad n < n = ltb-true _ _ t in
          let s : i ≡ first_below bad n = cc in
          (rw s within, λ k h. first_fails bad n k (omega arith), rw s (first_holds bad n within))
      by false t e = cc

-- the first index by `position` is the first number
pub position_first : {X : Type 0} (test : X → Bool) (xs : List X) (d : X) → position test xs ≡ first_of (λ i. test (get_or xs i d)) (length xs)
position_first {X} test xs d = by (cases_lt (position_or_len test xs) (length xs))
  where
    bad : ℕ → Bool
    bad i = test (get_or xs i d)

    by : (position_or_len test xs < length xs) ⊎ (length xs ≤ position_or_len test xs) → position test xs ≡ first_of bad (length xs)
    by (inl l) = rw (lt-ltb _ _ l) (first_of_at bad (length xs) _ l (λ k h. fails_before_first test xs k d h) (passes_at_first test xs d l))
    by (inr l) = rw (le-ltb _ _ l) (first_of_none bad (length xs) (λ k h. fails_before_first test xs k d (omega arith)))
