-- What the decision of a block at a price answers: the numbers of its best choice, or that no choice is codable.
use Rattle.std.specs.Prelude.{◌≡◌, List, ℕ}
use Rattle.block.specs.Block.{Block}
use Rattle.block.specs.Choice.{bits, error, keep_number}
use Rattle.price.specs.Best.{Best, NoChoice}
use Rattle.forward.specs.declared.Chosen.{Chosen}
use Rattle.std.specs.Prelude.{Option, None, Some}

-- the bits, the error and the keep number of the best choice
pub record OfBest (B : Block) (a b : ℕ) (p : Chosen) : Type 0 where
  pub choice : List ℕ
  pub best : Best B a b choice
  pub bits_is : p.bits.0 ≡ bits B 0 choice
  pub error_is : p.error.0 ≡ error B 0 choice
  pub keep_is : p.keep ≡ keep_number choice

pub record Decides (B : Block) (a b : ℕ) (r : Option Chosen) : Type 0 where
  pub best : (p : Chosen) → r ≡ Some p → OfBest B a b p
  pub nothing : r ≡ None → NoChoice B
