-- The rules of the fixed tables, each by one test that antt computes: a length is at most 16, and it is there
-- exactly for end of block, sixteen zeros and sizes 1 to 10; the zigzag order meets every place.
-- Assumes nothing.
use mathlib.Core.Bool.{Bool, true, false, ◌&&◌, ◌||◌, not}
use Prim.Native.Nat.{ℕ, suc, ◌%◌, ◌≤◌, ◌<◌}
use lib.Dec.{T, eqb, leb, ltb, leb→le}
use lib.ListN.{get_or}
use Rattle.block.specs.First.{first_from, first_below}
use Rattle.block.specs.K5.{k5}
use Rattle.block.specs.Zigzag.{zigzag}
use Rattle.block.proofs.Table.{at}

unfoldable short : ℕ → ℕ → Bool
short i x = leb x 16

unfoldable pub coded : ℕ → Bool
coded i = eqb i 0 || eqb i 240 || (ltb 0 (i % 16) && ltb (i % 16) 11)

unfoldable pub same : Bool → Bool → Bool
same true b = b
same false b = not b

unfoldable pub used : ℕ → ℕ → Bool
used i x = same (coded i) (ltb 0 x)

pub k5_most : (i : ℕ) → i < 256 → get_or k5 i 0 ≤ 16
unfolding short
k5_most i h = leb→le (get_or k5 i 0) 16 (at short k5 tt i h)

pub k5_used : (i : ℕ) → i < 256 → T (used i (get_or k5 i 0))
unfolding used same coded
k5_used i h = at used k5 tt i h

unfoldable pub stands_at : ℕ → ℕ → Bool
stands_at x i = eqb (get_or zigzag i 0) x

unfoldable inside : ℕ → ℕ → Bool
inside i x = leb x 63

unfoldable met : ℕ → ℕ → Bool
met x q = ltb (first_below (stands_at x) 64) 64

pub zigzag_most : (i : ℕ) → i < 64 → get_or zigzag i 0 ≤ 63
unfolding inside
zigzag_most i h = leb→le (get_or zigzag i 0) 63 (at inside zigzag tt i h)

-- each place of the row order has its position
pub zigzag_meets : (x : ℕ) → x < 64 → first_below (stands_at x) 64 < 64
unfolding met stands_at first_below first_from
zigzag_meets x h = leb→le (suc (first_below (stands_at x) 64)) 64 (at met zigzag tt x h)
