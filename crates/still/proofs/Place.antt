-- An index of a still is a block and a position in it: the AC level there is that of its block.
-- Assumes nothing.
use Rattle.std.proofs.Common.{◌≡◌, ℕ, zero, suc, ◌+◌, ◌*◌, ◌/◌, ◌%◌, ◌<◌, List, get_or, ℤ, pos, nat_abs, refl, arith}
use Rattle.block.specs.Level.{ac_level, levels_of}
use Rattle.still.specs.Refusals.{ac_at}

-- index 64 * b + k is position k of block b
pub block_of_lem : (b k : ℕ) → k < 64 → (64 * b + k) / 64 ≡ b
block_of_lem b k h = omega arith

pub position_of : (b k : ℕ) → k < 64 → (64 * b + k) % 64 ≡ k
position_of b k h = omega arith

-- the magnitude at a position other than 0
pub ac_some : (levels : List ℤ) (k : ℕ) → (k ≡ 0 → ⊥) → ac_level levels k ≡ nat_abs (get_or levels k (pos 0))
ac_some levels zero h = absurd (h refl)
ac_some levels (suc k) h = refl

-- the magnitude at an index is that at its position in its block
pub ac_of : (levels : List ℤ) (b k : ℕ) → k < 64 → ac_at levels (64 * b + k) ≡ ac_level (levels_of levels b) k
unfolding ac_at
ac_of levels b k h = rw (block_of_lem b k h, position_of b k h)
