-- For the functions of this crate and of the budget job, and not for a reader of the promises: the winners at prices with 1 on error.
use Rattle.std.specs.Prelude.{◌≡◌, List, ℕ, ◌≤◌, ◌<◌}
use Rattle.block.specs.Block.{Block}
use Rattle.corners.specs.Pair.{Pair}
use Rattle.corners.specs.Price.{Wins}
use Rattle.forward.specs.declared.Chosen.{Chosen}
use Rattle.attained.specs.Attained.{Attained, Smallest}
use Rattle.attained.specs.Chosen.{pair_in, chosen_at}

-- The choice wins in a block at (1, b), by the smallest keep number with its pair.
pub record Won (B : Block) (b : ℕ) (choice : Chosen) : Type 0 where
  pub wins : Wins (Attained B) 1 b (pair_in choice)
  pub smallest : Smallest B (pair_in choice) choice.keep

-- The same of each of n blocks.
pub record WonAt (B : ℕ → Block) (n b : ℕ) (each : List Chosen) : Type 0 where
  pub won : (i : ℕ) → i < n → Won (B i) b (chosen_at each i)

-- In a block `dear` wins at a price not below b, and a pair with these bits at one not above it.
pub record Between (B : Block) (b : ℕ) (dear : Chosen) (bits : ℕ) : Type 0 where
  pub high : ℕ
  pub low : ℕ
  pub above : b ≤ high
  pub below : low ≤ b
  pub dear_won : Won B high dear
  pub cheap : Pair
  pub cheap_wins : Wins (Attained B) 1 low cheap
  pub cheap_bits : cheap.bits ≡ bits
