-- A corner's choice: in each block the smallest keep number among the codable choices with that block's pair.
use Rattle.std.specs.Prelude.{◌≡◌, ℕ, ◌<◌}
use Rattle.block.specs.Block.{Block}
use Rattle.corners.specs.Pair.{Pair}
use Rattle.corners.specs.Still.{total}
use Rattle.attained.specs.Attained.{Smallest}
use Rattle.kept.specs.Kept.{kept_to}

pub record CornerChoice (B : ℕ → Block) (n : ℕ) (P : Pair) (keep : ℕ → ℕ) : Type 0 where
  pub pick : ℕ → Pair
  pub smallest : (i : ℕ) → i < n → Smallest (B i) (pick i) (keep i)
  pub adds : P ≡ total pick n

-- `kept` counts the ones of its keep numbers
pub record CornerKept (B : ℕ → Block) (n : ℕ) (P : Pair) (kept : ℕ) : Type 0 where
  pub keep : ℕ → ℕ
  pub choice : CornerChoice B n P keep
  pub counts : kept ≡ kept_to keep n
