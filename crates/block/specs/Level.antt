-- Levels, steps and lengths as a block: the one place where they come in.
use Rattle.std.specs.Prelude.{Bool, List, ℕ, zero, suc, ◌*◌, ◌^◌, ltb, ℤ, pos, nat_abs, get_or, take, drop}
use Rattle.block.specs.First.{first_below}
use Rattle.block.specs.Block.{Block}

-- the magnitude of the AC level at a position; position 0 is DC, which has none
abbrev pub ac_level : List ℤ → ℕ → ℕ
ac_level levels zero = 0
ac_level levels (suc k) = nat_abs (get_or levels (suc k) (pos 0))

-- the size of a magnitude n up to 1,023: the least s with n < 2^s
unfoldable pub fits_size : ℕ → ℕ → Bool
fits_size n s = ltb n (2 ^ s)

unfoldable pub size_of : ℕ → ℕ
size_of n = first_below (fits_size n) 10

-- the error of dropping a magnitude n whose step is q
abbrev pub squared_error : ℕ → ℕ → ℕ
squared_error n q = n * q * (n * q)

-- a block of 64 levels in zigzag order, with the steps and the lengths of its still
abbrev pub block_of : List ℤ → List ℕ → List ℕ → Block
block_of levels steps lengths = record {
  size = λ k. size_of (ac_level levels k);
  drops = λ k. squared_error (ac_level levels k) (get_or steps k 0);
  keeps = λ k. 0;
  len = λ i. get_or lengths i 0;
}

-- the 64 levels of block i of a still
abbrev pub levels_of : List ℤ → ℕ → List ℤ
levels_of levels i = take 64 (drop (64 * i) levels)
