-- How large the numbers of a choice can be: at most 1,638 bits and an error of 4,287,184,538,175.
-- Assumes nothing.
use mathlib.Core.Path.{◌≡◌, refl, sym}
use mathlib.Core.Bool.{Bool, true, false}
use mathlib.Core.List.{List, [], ◌∷◌}
use Prim.Native.Nat.{ℕ, zero, suc, ◌+◌, ◌-◌, ◌*◌, ◌/◌, ◌^◌, ◌≤◌, ◌<◌}
use native.Mathlib.Nat.{mul-le-mul_left, div-mul-le_self, pow-suc, add-zero, add-suc, suc-add, zero-add, mul-suc}
use native.Mathlib.Numerals.{add-one}
use native.Mathlib.Omega.{arith}
use lib.Dec.{eqb}
use borrow.Author.Tests.{eqb-false}
use lib.Pow.{pow_mono}
use Rattle.block.specs.Block.{Block, level_bits, entry, dropped}
use Rattle.block.specs.Choice.{Choice, keep_number, error, bits}
use Rattle.block.specs.First.{pick}
use Rattle.block.specs.Limits.{Limits, most_level_error, most_bits, most_error}

-- a sum of dropped positions: in two parts, its bound, none
pub dropped_join : (d : ℕ → ℕ) (i m n : ℕ) → dropped d i (m + n) ≡ dropped d i m + dropped d (i + m) n
dropped_join d i zero n = rw (zero-add n, add-zero i) (omega arith)
dropped_join d i (suc m) n = rw (suc-add, add-suc) (omega (arith, rw suc-add at (dropped_join d (suc i) m n)))

pub dropped_most : (d : ℕ → ℕ) (M : ℕ) → ((k : ℕ) → d k ≤ M) → (i n : ℕ) → dropped d i n ≤ M * n
dropped_most d M h i zero = omega arith
dropped_most d M h i (suc n) = omega (arith, h i, dropped_most d M h (suc i) n, mul-suc M n)

pub dropped_none : (d : ℕ → ℕ) (i n : ℕ) → ((k : ℕ) → i ≤ k → k < i + n → d k ≡ 0) → dropped d i n ≡ 0
dropped_none d i zero h = refl
dropped_none d i (suc n) h = omega (arith, h i (omega arith) (omega arith), dropped_none d (suc i) n (λ k p q. h k (omega arith) (omega arith)))

pub level_most : (len : ℕ → ℕ) → ((i : ℕ) → len i ≤ 16) → (r s : ℕ) → s ≤ 10 → level_bits len r s ≤ r + 26
level_most len m r s h = omega (arith, mul-le-mul_left (r / 16) (m 240), m (entry r s), div-mul-le_self r 16)

module _ (B : Block) (lim : Limits B) where
  pub end_most : (j : ℕ) (t : Bool) → j < 64 → t ≡ eqb j 63 → pick t 0 (B.len 0) ≤ 26 * (63 - j)
  end_most j true h e = omega arith
  end_most j false h e = omega (arith, lim.len_most 0, eqb-false j 63 (sym e))

  pub bits_most : (j : ℕ) (c : List ℕ) → j < 64 → Choice B j c → bits B j c ≤ 26 * (63 - j)
  bits_most j [] h p = end_most j (eqb j 63) h refl
  bits_most j (k ∷ c) h p =
      omega (arith, p.0, p.1, level_most B.len lim.len_most (k - j - 1) (B.size k) (lim.size_most k), bits_most k c p.1 p.3)

  pub error_most : (j : ℕ) (c : List ℕ) → j < 64 → Choice B j c → error B j c ≤ most_level_error * (63 - j)
  error_most j [] h p = dropped_most B.drops most_level_error lim.drops_most (j + 1) (63 - j)
  error_most j (k ∷ c) h p =
      omega (arith, p.0, p.1, dropped_most B.drops most_level_error lim.drops_most (j + 1) (k - j - 1), lim.keeps_most k, error_most k c p.1 p.3)

  pub keep_most : (j : ℕ) (c : List ℕ) → j < 64 → Choice B j c → keep_number c + 2 ^ (j + 1) ≤ 2 ^ 64
  keep_most j [] h p = omega (arith, pow_mono {i = j + 1} {j = 64} (omega arith))
  keep_most j (k ∷ c) h p = omega (arith, keep_most k c p.1 p.3, pow_mono {i = j + 1} {j = k} (omega (arith, p.0)), double k)
    where
      double : (k : ℕ) → 2 ^ (k + 1) ≡ 2 ^ k + 2 ^ k
      double k = rw (add-one, pow-suc) (omega arith)

-- of a whole block
pub block_bits_most : (B : Block) → Limits B → (c : List ℕ) → Choice B 0 c → bits B 0 c ≤ most_bits
block_bits_most B l c h = bits_most B l 0 c (omega arith) h

pub block_error_most : (B : Block) → Limits B → (c : List ℕ) → Choice B 0 c → error B 0 c ≤ most_error
block_error_most B l c h = error_most B l 0 c (omega arith) h
