-- What all blocks have together: sums of one number a block, at most so much, and a change of one block's.
-- Assumes nothing.
use Rattle.std.proofs.Common.{◌≡◌, refl, ap, sym, ◌∙◌, ℕ, zero, suc, ◌+◌, ◌*◌, ◌≤◌, ◌<◌, arith}
use lib.Count.{ones, ones-le}
use native.Mathlib.Decide.{ℕ_discrete}
use Rattle.block.specs.Block.{Block}
use Rattle.block.specs.Limits.{Limits, most_bits, most_error}
use Rattle.block.proofs.Bounds.{keep_most}
use Rattle.corners.specs.Pair.{Pair}
use Rattle.corners.specs.Still.{total}
use Rattle.attained.specs.Attained.{Smallest}
use Rattle.attained.specs.Chosen.{pair_in}
use Rattle.attained.proofs.Winning.{attained_bits, attained_error}
use Rattle.forward.specs.declared.Chosen.{Chosen}
use Rattle.kept.specs.Kept.{kept_to}
use Rattle.still.specs.Blocks.{count_of, block_in}
use Rattle.still.proofs.Blocks.{block_in_limits}
use Rattle.merge.specs.declared.Course.{Course}
use Rattle.merge.specs.Standing.{present_at, corner_at, Together}
use Rattle.merge.specs.Going.{Exchangeable, Exchanged}
use Rattle.merge.proofs.Station.{attains}

-- F n is the sum of the first n numbers x.
record SumOf (F x : ℕ → ℕ) : Type 0 where
  none : F 0 ≡ 0
  one : (n : ℕ) → F (suc n) ≡ F n + x n

module _ {F x : ℕ → ℕ} (s : SumOf F x) where
  sum_most : (m n : ℕ) → ((i : ℕ) → i < n → x i ≤ m) → F n ≤ m * n
  sum_most m zero h = omega (arith, s.none)
  sum_most m (suc n) h = omega (arith, s.one n, sum_most m n (λ i l. h i (omega arith)), h n (omega arith))

  sum_part : (n k : ℕ) → k < n → x k ≤ F n
  sum_part zero k l = absurd (omega arith)
  sum_part (suc n) k l = go (ℕ_discrete k n) (sum_part n k)
    where
      go : Dec (k ≡ n) → (k < n → x k ≤ F n) → x k ≤ F (suc n)
      go (yes e) r = omega (arith, s.one n, ap x e)
      go (no u) r = omega (arith, s.one n, r (omega arith))

-- Two sums of the same numbers, and of numbers of which one is another.
module _ {F x G y : ℕ → ℕ} (s : SumOf F x) (t : SumOf G y) where
  sum_same : (n : ℕ) → ((i : ℕ) → i < n → y i ≡ x i) → G n ≡ F n
  sum_same zero h = omega (arith, s.none, t.none)
  sum_same (suc n) h = omega (arith, s.one n, t.one n, sum_same n (λ i l. h i (omega arith)), h n (omega arith))

  sum_swap : (n k : ℕ) → k < n → ((i : ℕ) → (i ≡ k → ⊥) → y i ≡ x i) → G n + x k ≡ F n + y k
  sum_swap zero k l h = absurd (omega arith)
  sum_swap (suc n) k l h = go (ℕ_discrete k n) (λ m. sum_swap n k m h)
    where
      go : Dec (k ≡ n) → (k < n → G n + x k ≡ F n + y k) → G (suc n) + x k ≡ F (suc n) + y k
      go (yes e) r = omega (arith, s.one n, t.one n, ap x e, ap y e, sum_same n (λ i m. h i (λ q. omega arith)))
      go (no u) r = omega (arith, s.one n, t.one n, r (omega arith), h n (λ q. omega arith))

-- What the choices `each` have together is such sums.
module _ (each : ℕ → Chosen) where
  bits_sum : SumOf (λ n. (total (λ i. pair_in (each i)) n).bits) (λ i. (each i).bits.0)
  bits_sum = record { none = refl; one = λ n. refl }

  error_sum : SumOf (λ n. (total (λ i. pair_in (each i)) n).error) (λ i. (each i).error.0)
  error_sum = record { none = refl; one = λ n. refl }

  kept_sum : SumOf (kept_to (λ i. (each i).keep)) (λ i. ones (each i).keep)
  kept_sum = record { none = refl; one = λ n. refl }

-- The course's choices are those that `each` has, and have the same together.
pub together_sums : {c : Course} {each : ℕ → Chosen} {n : ℕ} → count_of c.search.still ≡ n → ((i : ℕ) → i < n → present_at c i ≡ each i)
    → c.point.bits.0 ≡ (total (λ i. pair_in (each i)) n).bits → c.point.error.0 ≡ (total (λ i. pair_in (each i)) n).error
    → c.point.kept ≡ kept_to (λ i. (each i).keep) n → Together c
together_sums {c} {each} {n} count same b e k = record {
  bits = rw count (b ∙ sym (sum_same (bits_sum each) (bits_sum (present_at c)) n (λ i l. ap (λ (x : Chosen). x.bits.0) (same i l))));
  error = rw count (e ∙ sym (sum_same (error_sum each) (error_sum (present_at c)) n (λ i l. ap (λ (x : Chosen). x.error.0) (same i l))));
  kept = rw count (k ∙ sym (sum_same (kept_sum each) (kept_sum (present_at c)) n (λ i l. ap (λ (x : Chosen). ones x.keep) (same i l))));
}

-- A block's keep number has at most 64 ones.
ones_few : {B : Block} {P : Pair} {keep : ℕ} → Limits B → Smallest B P keep → ones keep ≤ 64
ones_few {B} limits s = ones-le 64 _ (omega (arith, s.keep_is, keep_most B limits 0 s.choice (omega arith) s.codable.choice))

-- Blocks within their limits come to at most so much.
module _ {c : Course} (t : Together c)
    (smallest : (i : ℕ) → i < count_of c.search.still → Smallest (block_in c.search.still i) (corner_at c i) (present_at c i).keep) where
  limits : (i : ℕ) → i < count_of c.search.still → Limits (block_in c.search.still i)
  limits = block_in_limits c.search.still

  pub together_bits : c.point.bits.0 ≤ most_bits * count_of c.search.still
  together_bits = omega (
    arith,
    t.bits,
    sum_most (bits_sum (present_at c)) most_bits (count_of c.search.still) (λ i l. attained_bits (block_in c.search.still i) (limits i l) (attains (smallest i l))),
  )

  together_error : c.point.error.0 ≤ most_error * count_of c.search.still
  together_error = omega (
    arith,
    t.error,
    sum_most (error_sum (present_at c)) most_error (count_of c.search.still) (λ i l. attained_error (block_in c.search.still i) (limits i l) (attains (smallest i l))),
  )

  together_kept : c.point.kept ≤ 64 * count_of c.search.still
  together_kept = omega (arith, t.kept, sum_most (kept_sum (present_at c)) 64 (count_of c.search.still) (λ i l. ones_few (limits i l) (smallest i l)))

  -- One block's choice may give way to another of its choices.
  pub exchangeable : {k : ℕ} {now : Chosen} → k < count_of c.search.still → now.bits.0 ≤ most_bits → now.error.0 ≤ most_error
      → Exchangeable c.point (present_at c k) now
  exchangeable {k} l b e = let few = c.search.still.sound.still.most in record {
    bits_low = omega (arith, t.bits, sum_part (bits_sum (present_at c)) (count_of c.search.still) k l);
    bits_high = omega (arith, few, together_bits);
    error_low = omega (arith, t.error, sum_part (error_sum (present_at c)) (count_of c.search.still) k l);
    error_high = omega (arith, few, together_error);
    kept_low = omega (arith, t.kept, sum_part (kept_sum (present_at c)) (count_of c.search.still) k l);
    kept_high = omega (arith, few, together_kept);
  }

-- One block's choice has given way to another.
module _ (c c' : Course) (k : ℕ) (t : Together c) (l : k < count_of c.search.still) (still : c'.search.still ≡ c.search.still)
    (other : (i : ℕ) → (i ≡ k → ⊥) → present_at c' i ≡ present_at c i) where
  count : count_of c'.search.still ≡ count_of c.search.still
  count = ap count_of still

  bits_swap : (total (corner_at c') (count_of c.search.still)).bits + (present_at c k).bits.0 ≡ (total (corner_at c) (count_of c.search.still)).bits + (present_at c' k).bits.0
  bits_swap = sum_swap (bits_sum (present_at c)) (bits_sum (present_at c')) (count_of c.search.still) k l (λ i u. ap (λ (x : Chosen). x.bits.0) (other i u))

  error_swap : (total (corner_at c') (count_of c.search.still)).error + (present_at c k).error.0 ≡ (total (corner_at c) (count_of c.search.still)).error + (present_at c' k).error.0
  error_swap = sum_swap (error_sum (present_at c)) (error_sum (present_at c')) (count_of c.search.still) k l (λ i u. ap (λ (x : Chosen). x.error.0) (other i u))

  kept_swap : kept_to (λ i. (present_at c' i).keep) (count_of c.search.still) + ones (present_at c k).keep
      ≡ kept_to (λ i. (present_at c i).keep) (count_of c.search.still) + ones (present_at c' k).keep
  kept_swap = sum_swap (kept_sum (present_at c)) (kept_sum (present_at c')) (count_of c.search.still) k l (λ i u. ap (λ (x : Chosen). ones x.keep) (other i u))

  pub exchanged : Exchanged c.point (present_at c k) (present_at c' k) c'.point → Together c'
  exchanged x = record {
    bits = rw count (omega (arith, t.bits, x.bits, bits_swap));
    error = rw count (omega (arith, t.error, x.error, error_swap));
    kept = rw count (omega (arith, t.kept, x.kept, kept_swap));
  }

  -- by so much the bits have changed
  pub bits_changed : Together c' → c'.point.bits.0 + (present_at c k).bits.0 ≡ c.point.bits.0 + (present_at c' k).bits.0
  bits_changed t' = omega (arith, t.bits, t'.bits, bits_swap, ap (λ (n : ℕ). (total (corner_at c') n).bits) count)
