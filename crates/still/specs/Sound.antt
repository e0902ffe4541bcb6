-- What holds of a still, its tables and its keep numbers when no check refuses them.
use Rattle.std.specs.Prelude.{◌≡◌, List, ℕ, ◌*◌, ◌≤◌, ◌<◌, ℤ, length, get_or}
use Rattle.block.specs.Level.{ac_level, levels_of}
use Rattle.block.specs.Limits.{Levels, Steps, Lengths}
use Rattle.still.specs.Refusals.{bit_at}

-- n blocks of 64 levels
pub record Still (levels : List ℤ) (n : ℕ) : Type 0 where
  pub count : length levels ≡ 64 * n
  pub least : 1 ≤ n
  pub most : n ≤ 1024
  pub blocks : (b : ℕ) → b < n → Levels (levels_of levels b)

pub record Sound (levels : List ℤ) (steps lengths : List ℕ) (n : ℕ) : Type 0 where
  pub still : Still levels n
  pub step_limits : Steps steps
  pub length_limits : Lengths lengths

-- a keep number for each block, which sets only bits of AC levels that are not 0
pub record KeepNumbers (levels : List ℤ) (keep : List ℕ) (n : ℕ) : Type 0 where
  pub count : length keep ≡ n
  pub bits : (b k : ℕ) → b < n → k < 64 → bit_at (get_or keep b 0) k ≡ 1 → 0 < ac_level (levels_of levels b) k
