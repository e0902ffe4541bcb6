-- What a block is to the coder, and the bits of one kept level (T.81, F.1.2.2).
use Rattle.std.specs.Prelude.{ℕ, zero, suc, ◌+◌, ◌*◌, ◌/◌, ◌%◌, ◌≤◌, ◌<◌}

-- At each position from 1 to 63 the size of the level (0 for a level that is 0), the error that dropping it adds
-- and the error that keeping it adds; and the length of each code, by entry, 0 where there is none.
pub record Block : Type 0 where
  pub size : ℕ → ℕ
  pub drops : ℕ → ℕ
  pub keeps : ℕ → ℕ
  pub len : ℕ → ℕ

-- the entry of a level of size s after a run of r zeros, less the sixteens that have codes of their own
abbrev pub entry : ℕ → ℕ → ℕ
entry r s = r % 16 * 16 + s

-- its bits: a sixteen-zero code (entry 240) for each sixteen of the run, its own code, and s bits for its value
abbrev pub level_bits : (ℕ → ℕ) → ℕ → ℕ → ℕ
level_bits len r s = r / 16 * len 240 + len (entry r s) + s

-- the codes that it uses exist
abbrev pub LevelCode : (ℕ → ℕ) → ℕ → ℕ → Type 0
LevelCode len r s = (0 < len (entry r s)) × (16 ≤ r → 0 < len 240)

-- the error of dropping the n positions from i on
abbrev pub dropped : (ℕ → ℕ) → ℕ → ℕ → ℕ
dropped d i zero = 0
dropped d i (suc n) = d i + dropped d (suc i) n
