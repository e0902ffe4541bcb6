-- The bits of a keep number: which of them are bad, and the eight from a place on by themselves.
-- Assumes nothing.
use Rattle.std.proofs.Common.{◌≡◌, ℕ, zero, suc, ◌+◌, ◌-◌, ◌*◌, ◌/◌, ◌%◌, ◌^◌, ◌<◌, false, ◌&&◌, eqb, List, [], get_or, drop, ℤ, pos, ap, ◌∙◌, arith}
use Rattle.std.proofs.lemmas.Nat.{shr-shr}
use Rattle.std.proofs.lemmas.List.{get_or-take, get_or-drop}
use Rattle.std.specs.Simd.{first_chunks}
use lib.Pow.{field, mod-mod-pow}
use Rattle.still.specs.Passed.{Passed, bit_bad, zero_kept}
use Rattle.still.specs.Refusals.{bit_at, ac_at, bad_keep}
use Rattle.still.proofs.Cut.{chunk_at}
use Rattle.still.proofs.Place.{block_of_lem, position_of}

-- the test at position k of block b
pub bad_at : (levels : List ℤ) (keep : List ℕ) (b k : ℕ) → k < 64
    → bad_keep levels keep (64 * b + k) ≡ eqb (bit_at (get_or keep b 0) k) 1 && eqb (ac_at levels (64 * b + k)) 0
unfolding bad_keep
bad_at levels keep b k h = rw (block_of_lem b k h, position_of b k h)

-- the low eight bits of a number are its own
pub low_bit : (n k : ℕ) → k < 8 → bit_at (n % 256) k ≡ bit_at n k
low_bit n k h =
    let s : 7 - k + 1 + k ≡ 8 = omega arith in
    let f : bit_at (n % 2 ^ (7 - k + 1 + k)) k ≡ n / 2 ^ k % 2 ^ (7 - k + 1) % 2 = ap (λ (m : ℕ). m % 2) (field n (7 - k + 1) k) in
    (rw s at f) ∙ mod-mod-pow (n / 2 ^ k) (7 - k) 1

-- eight bits and eight levels of a block
pub eight_kept : (block : List ℤ) (keep n g k : ℕ) → g < n → k < 8
    → zero_kept (get_or (first_chunks 8 n block) g []) (keep / 2 ^ (8 * g) % 256) k ≡ zero_kept block keep (8 * g + k)
unfolding zero_kept
eight_kept block keep n g k h l =
    let bits : bit_at (keep / 2 ^ (8 * g) % 256) k ≡ bit_at keep (8 * g + k) = low_bit _ k l ∙ ap (λ (m : ℕ). m % 2) (shr-shr keep (8 * g) k) in
    let level : get_or (get_or (first_chunks 8 n block) g []) k (pos 0) ≡ get_or block (8 * g + k) (pos 0) = ap (λ (xs : List ℤ). get_or xs k (pos 0)) (chunk_at 8 n g (8 * g) block (omega arith) h) ∙ get_or-take 8 (drop (8 * g) block) k (pos 0) l ∙ get_or-drop (8 * g) block k (pos 0) in
    rw (bits, level)

-- no bit is bad where DC's is not set, and none of a level that is 0
pub no_bad_bit : (block : List ℤ) (keep : ℕ) → eqb (keep % 2) 1 ≡ false → Passed (zero_kept block keep) 64 → Passed (bit_bad block keep) 64
unfolding bit_bad zero_kept
no_bad_bit block keep dc passed zero h = let whole : keep / 2 ^ 0 ≡ keep = omega arith in rw (whole, dc)
no_bad_bit block keep dc passed (suc k) h = passed (suc k) h
