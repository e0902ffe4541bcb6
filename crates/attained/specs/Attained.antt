-- What a block attains, the pairs of its codable choices, what a price gives it, and the choice that stands for a pair.
use Rattle.std.specs.Prelude.{◌≡◌, List, ℕ, ◌≤◌, ℤ}
use Rattle.block.specs.Block.{Block}
use Rattle.block.specs.Choice.{CodableChoice, bits, error, keep_number}
use Rattle.block.specs.Level.{block_of, levels_of}
use Rattle.price.specs.Best.{Best}
use Rattle.corners.specs.Pair.{Pair}

-- block i of a still
abbrev pub block_at : List ℤ → List ℕ → List ℕ → ℕ → Block
block_at levels steps lengths i = block_of (levels_of levels i) steps lengths

abbrev pub pair_of : Block → List ℕ → Pair
pair_of B c = record { bits = bits B 0 c; error = error B 0 c }

pub record Attained (B : Block) (P : Pair) : Type 0 where
  pub choice : List ℕ
  pub codable : CodableChoice B choice
  pub is : P ≡ pair_of B choice

-- at a price the best choice of the block has the pair P and this keep number
pub record Gives (B : Block) (a b : ℕ) (P : Pair) (keep : ℕ) : Type 0 where
  pub choice : List ℕ
  pub best : Best B a b choice
  pub is : P ≡ pair_of B choice
  pub keep_is : keep ≡ keep_number choice

-- the smallest keep number among the codable choices with the pair P
pub record Smallest (B : Block) (P : Pair) (keep : ℕ) : Type 0 where
  pub choice : List ℕ
  pub codable : CodableChoice B choice
  pub is : P ≡ pair_of B choice
  pub keep_is : keep ≡ keep_number choice
  pub least : (o : List ℕ) → CodableChoice B o → P ≡ pair_of B o → keep ≤ keep_number o
