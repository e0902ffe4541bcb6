-- What each check says when it refuses nothing.
-- Assumes nothing.
use Rattle.std.proofs.Common.{◌≡◌, ℕ, ◌+◌, ◌*◌, ◌/◌, ◌%◌, ◌≤◌, ◌<◌, Bool, true, false, not, ◌&&◌, ◌||◌, eqb, ltb, List, length, get_or, drop, length-drop, ℤ, pos, refl, sym, ◌∙◌, arith}
use Rattle.std.proofs.Math.ListN.{get_or-eq_default}
use Rattle.std.proofs.lemmas.Bool.{ltb-false, eqb-true, eqb-false, eq-eqb, not-false, or_parts}
use Rattle.std.proofs.lemmas.List.{length-take-le}
use native.Mathlib.Decide.{dec_le}
use Rattle.block.specs.First.{pick, first_below}
use Rattle.block.proofs.First.{first_fails}
use Rattle.block.specs.Level.{ac_level, levels_of}
use Rattle.block.specs.Limits.{Levels, Steps, Lengths}
use Rattle.price.specs.Price.{outside}
use Rattle.price.specs.Accepted.{Accepted, most_on_error, most_on_bits}
use Rattle.answers.specs.Said.{fine}
use Rattle.answers.proofs.Verdicts.{when_fine}
use Rattle.still.specs.Refusals.{levels_check, outside_at, table_check, steps_check, lengths_check, price_check, keep_room_check, list_room_check, bit_at, ac_at, bad_level, ac_check, bad_keep, keep_check}
use Rattle.still.specs.Sound.{Still, KeepNumbers}
use Rattle.still.proofs.Place.{ac_some, ac_of}
use Rattle.still.proofs.Bits.{bad_at}

same : (x y : ℕ) → not (eqb x y) ≡ false → x ≡ y
same x y e = eqb-true x y (not-false _ e)

-- no index below n is bad
none_bad : (bad : ℕ → Bool) (n : ℕ) → ltb (first_below bad n) n ≡ false → (i : ℕ) → i < n → bad i ≡ false
none_bad bad n e i h = first_fails bad n i (omega (arith, ltb-false (first_below bad n) n e))

pub levels_fine : (count : ℕ) → levels_check count ≡ fine → (count ≡ 64 * (count / 64)) × (1 ≤ count / 64) × (count / 64 ≤ 1024)
unfolding levels_check
levels_fine count e =
    let n = count / 64 in
    let p = or_parts (not (eqb (64 * n) count) || ltb n 1) (ltb 1024 n) (when_fine _ _ _ _ e) in
    let q = or_parts (not (eqb (64 * n) count)) (ltb n 1) p.0 in (sym (same (64 * n) count q.0), ltb-false n 1 q.1, ltb-false 1024 n p.1)

-- a table that is not refused: the count is right, and no index is told
module _ (number count low high : ℕ) (values : List ℕ) where
  -- by cases, since which of the two checks comes first does not matter here
  table_tests : (s t : Bool) → eqb (length values) count ≡ s → ltb (first_below (outside_at low high values) count) count ≡ t
      → table_check number count low high values ≡ fine → (s ≡ true) × (t ≡ false)
  unfolding table_check
  table_tests true false p q e = (refl, refl)
  table_tests true true p q e = cc
  table_tests false false p q e = cc
  table_tests false true p q e = cc

  table_fine : table_check number count low high values ≡ fine → (length values ≡ count) × ((i : ℕ) → get_or values i 0 ≤ high)
  unfolding outside_at
  table_fine e =
      let p = table_tests _ _ refl refl e in
      let s = eqb-true (length values) count p.0 in
      (s, λ i. at i s (none_bad (outside_at low high values) count p.1) (dec_le count i))
    where
      at : (i : ℕ) → length values ≡ count → ((k : ℕ) → k < count → outside_at low high values k ≡ false) → Dec (count ≤ i) → get_or values i 0 ≤ high
      at i s h (yes l) = rw (get_or-eq_default values 0 {n = i} (omega arith)) (omega arith)
      at i s h (no l) = ltb-false high (get_or values i 0) (or_parts (ltb (get_or values i 0) low) (ltb high (get_or values i 0)) (h i (omega arith))).1

pub steps_fine : (steps : List ℕ) → steps_check steps ≡ fine → Steps steps
steps_fine steps e = let p = table_fine 2 64 1 255 steps e in record { count = p.0; most = p.1 }

pub lengths_fine : (lengths : List ℕ) → lengths_check lengths ≡ fine → Lengths lengths
lengths_fine lengths e = let p = table_fine 3 256 0 16 lengths e in record { count = p.0; most = p.1 }

pub price_fine : (a b : ℕ) → price_check a b ≡ fine → Accepted a b
unfolding price_check outside
price_fine a b e = by (ltb a 1) (ltb most_on_error a) (ltb most_on_bits b) refl refl refl (same (outside a b) 0 (when_fine _ _ _ _ e))
  where
    by : (s t u : Bool) → ltb a 1 ≡ s → ltb most_on_error a ≡ t → ltb most_on_bits b ≡ u → ◌≡◌ {A = ℕ} (pick s 1 (pick t 1 (pick u 2 0))) 0 → Accepted a b
    by false false false f g h e = record { a_low = ltb-false a 1 f; a_high = ltb-false most_on_error a g; b_high = ltb-false most_on_bits b h }
    by true t u f g h e = absurd (omega arith)
    by false true u f g h e = absurd (omega arith)
    by false false true f g h e = absurd (omega arith)

pub keep_room_fine : (n room : ℕ) → keep_room_check n room ≡ fine → room ≡ n
unfolding keep_room_check
keep_room_fine n room e = same room n (when_fine _ _ _ _ e)

pub list_room_fine : (room : ℕ) → list_room_check room ≡ fine → room % 3 ≡ 0
unfolding list_room_check
list_room_fine room e = same (room % 3) 0 (when_fine _ _ _ _ e)

module _ (levels : List ℤ) (n : ℕ) (c : (length levels ≡ 64 * n) × (1 ≤ n) × (n ≤ 1024)) where
  -- block b of the still, whose levels are not bad
  block_fine : ((i : ℕ) → i < length levels → bad_level levels i ≡ false) → (b : ℕ) → b < n → Levels (levels_of levels b)
  unfolding bad_level
  block_fine good b h = record { count = size; most = λ k. at k (dec_le 64 k) }
    where
      size : length (levels_of levels b) ≡ 64
      size = length-take-le 64 (drop (64 * b) levels) (rw length-drop (omega arith))

      at : (k : ℕ) → Dec (64 ≤ k) → ac_level (levels_of levels b) k ≤ 1023
      at k (yes l) =
          rw (ac_some (levels_of levels b) k (λ z. omega arith), get_or-eq_default (levels_of levels b) (pos 0) {n = k} (omega (arith, size))) (omega arith)
      at k (no l) = rw (← ac_of levels b k (omega arith)) (ltb-false 1023 (ac_at levels (64 * b + k)) (good (64 * b + k) (omega arith)))

  pub ac_fine : ac_check levels ≡ fine → Still levels n
  unfolding ac_check
  ac_fine e =
      record {
        count = c.0;
        least = c.1;
        most = c.2;
        blocks = block_fine (none_bad (bad_level levels) (length levels) (when_fine _ _ _ _ e));
      }

pub keep_fine : (levels : List ℤ) (n : ℕ) → Still levels n → (keep : List ℕ) → length keep ≡ n → keep_check levels keep ≡ fine → KeepNumbers levels keep n
unfolding keep_check
keep_fine levels n v keep s e = record { count = s; bits = set }
  where
    both : (t u : Bool) → t && u ≡ false → t ≡ true → u ≡ false
    both true u e f = e
    both false u e f = cc

    set : (b k : ℕ) → b < n → k < 64 → bit_at (get_or keep b 0) k ≡ 1 → 0 < ac_level (levels_of levels b) k
    set b k h l f =
        let good = none_bad (bad_keep levels keep) (length levels) (when_fine _ _ _ _ e) (64 * b + k) (omega arith) in
        let z = eqb-false (ac_at levels (64 * b + k)) 0 (both (eqb (bit_at (get_or keep b 0) k) 1) (eqb (ac_at levels (64 * b + k)) 0) (sym (bad_at levels keep b k l) ∙ good) (eq-eqb _ _ f)) in
        omega (arith, z, ac_of levels b k l)
