-- Levels that are thinned from the front: what holds of the places passed and of those to come.
-- Assumes nothing.
use Rattle.std.proofs.Common.{◌≡◌, ℕ, ◌+◌, ◌-◌, ◌≤◌, ◌<◌, Bool, false, List, length, get_or, replicate, ℤ, pos, inl, inr, ap, ◌∙◌, rules, arith}
use Rattle.std.proofs.lemmas.Bool.{cases_lt}
use Rattle.std.proofs.lemmas.List.{places, length-replicate, get_or-replicate}
use borrow.Rule.Slice.PartMut.{put_mid, mid_of}
use Rattle.block.specs.First.{pick}
use Rattle.thin_job.specs.ThinJob.{ThinnedBy}

pub record ThinnedTo (stays : ℕ → Bool) (before : List ℤ) (n : ℕ) (after : List ℤ) : Type 0 where
  pub count : length after ≡ length before
  pub passed : (i : ℕ) → i < n → get_or after i (pos 0) ≡ pick (stays i) (get_or before i (pos 0)) (pos 0)
  pub ahead : (i : ℕ) → n ≤ i → get_or after i (pos 0) ≡ get_or before i (pos 0)

-- a part filled with 0: none of it stays
pub filled : {part zeros : List ℤ} → zeros ≡ replicate (length part) (pos 0) → ThinnedBy (λ _. false) part zeros
filled {part} e =
    record { count = ap length e ∙ length-replicate (length part) (pos 0); each = λ i h. ap (λ (xs : List ℤ). get_or xs i (pos 0)) e ∙ get_or-replicate (length part) i (pos 0) (pos 0) h }

module _ {stays : ℕ → Bool} {before : List ℤ} {n : ℕ} {after : List ℤ} (t : ThinnedTo stays before n after) where
  -- the part from n to e, thinned by itself
  pub part_more : {e : ℕ} {there : ℕ → Bool} {part : List ℤ} → n ≤ e → e ≤ length before
      → ThinnedBy there (mid_of n (e - n) after) part
      → ((k : ℕ) → k < e - n → there k ≡ stays (n + k))
      → ThinnedTo stays before e (put_mid n (e - n) after part)
  part_more {e} {there} {part} order h p alike =
      record {
        count = search (rules, places);
        passed = λ i l. elim (cases_lt i n) [ inl m ↦ kept_before i m ∙ t.passed i m | inr m ↦ thinned i m l ];
        ahead = λ i l. behind i l ∙ t.ahead i (omega arith);
      }
    where
      inside : e ≤ length after
      inside = omega (arith, t.count)

      long : length (mid_of n (e - n) after) ≡ e - n
      long = search (rules, places)

      whole : length part ≡ e - n
      whole = p.count ∙ long

      kept_before : (i : ℕ) → i < n → get_or (put_mid n (e - n) after part) i (pos 0) ≡ get_or after i (pos 0)
      kept_before i m = search (rules, places)

      behind : (i : ℕ) → e ≤ i → get_or (put_mid n (e - n) after part) i (pos 0) ≡ get_or after i (pos 0)
      behind i l = search (rules, places)

      thinned : (i : ℕ) → n ≤ i → i < e → get_or (put_mid n (e - n) after part) i (pos 0) ≡ pick (stays i) (get_or before i (pos 0)) (pos 0)
      thinned i m l =
          let s : n + (i - n) ≡ i = omega arith in
          let same : there (i - n) ≡ stays i = rw s at (alike (i - n) (omega arith)) in
          let now : get_or (put_mid n (e - n) after part) i (pos 0) ≡ get_or part (i - n) (pos 0) = search (rules, places) in
          let was : get_or (mid_of n (e - n) after) (i - n) (pos 0) ≡ get_or after i (pos 0) = search (rules, places) in
          now ∙ p.each (i - n) (omega (arith, long)) ∙ rw (same, was, t.ahead i m)

  pub ended : length before ≤ n → ThinnedBy stays before after
  ended h = record { count = t.count; each = λ i l. t.passed i (omega arith) }
