-- The first block of a still that has no codable choice.
use Rattle.std.specs.Prelude.{List, ℕ, ◌<◌}
use Rattle.block.specs.Block.{Block}
use Rattle.block.specs.Choice.{CodableChoice}
use Rattle.price.specs.Best.{NoChoice}

pub record HasChoice (B : Block) : Type 0 where
  pub choice : List ℕ
  pub codable : CodableChoice B choice

-- i is the first of n blocks without a codable choice
pub record FirstUncodable (B : ℕ → Block) (n i : ℕ) : Type 0 where
  pub within : i < n
  pub none : NoChoice (B i)
  pub earlier : (k : ℕ) → k < i → HasChoice (B k)
