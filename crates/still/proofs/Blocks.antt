-- A block of a checked still is within its bounds.
-- Assumes nothing.
use Rattle.std.proofs.Common.{ℕ, ◌<◌}
use Rattle.block.specs.Limits.{Limits}
use Rattle.block.proofs.Limited.{block_limits}
use Rattle.still.specs.declared.Still.{Still}
use Rattle.still.specs.Blocks.{count_of, block_in}

pub block_in_limits : (s : Still) (i : ℕ) → i < count_of s → Limits (block_in s i)
block_in_limits s i within = block_limits (s.sound.still.blocks i within) s.sound.step_limits s.sound.length_limits
