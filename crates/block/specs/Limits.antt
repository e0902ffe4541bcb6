-- The bounds of levels, steps and lengths that are not refused, and of a block that is made of them.
use Rattle.std.specs.Prelude.{◌≡◌, List, ℕ, ◌≤◌, ℤ, length, get_or}
use Rattle.block.specs.Block.{Block}
use Rattle.block.specs.Level.{ac_level}

-- the greatest error of one dropped level, the greatest error and the most bits of a block
abbrev pub most_level_error : ℕ
most_level_error = 68050548225

abbrev pub most_error : ℕ
most_error = 4287184538175

abbrev pub most_bits : ℕ
most_bits = 1638

pub record Levels (levels : List ℤ) : Type 0 where
  pub count : length levels ≡ 64
  pub most : (k : ℕ) → ac_level levels k ≤ 1023

pub record Steps (steps : List ℕ) : Type 0 where
  pub count : length steps ≡ 64
  pub most : (k : ℕ) → get_or steps k 0 ≤ 255

pub record Lengths (lengths : List ℕ) : Type 0 where
  pub count : length lengths ≡ 256
  pub most : (i : ℕ) → get_or lengths i 0 ≤ 16

pub record Limits (B : Block) : Type 0 where
  pub size_most : (k : ℕ) → B.size k ≤ 10
  pub drops_most : (k : ℕ) → B.drops k ≤ most_level_error
  pub keeps_most : (k : ℕ) → B.keeps k ≤ most_level_error
  pub len_most : (i : ℕ) → B.len i ≤ 16
