-- The blocks of a checked still.
use Rattle.std.specs.Prelude.{ℕ, ◌/◌, length}
use Rattle.block.specs.Block.{Block}
use Rattle.block.specs.Level.{block_of, levels_of}
use Rattle.still.specs.declared.Still.{Still}

-- how many it has
abbrev pub count_of : Still → ℕ
count_of s = length s.levels.now / 64

-- the one at i
abbrev pub block_in : Still → ℕ → Block
block_in s i = block_of (levels_of s.levels.now i) s.steps.now s.lengths.now
