-- The order of a block's choices at a price: least cost, then fewest bits, then smallest keep number; and the first in it.
use Rattle.std.specs.Prelude.{◌≡◌, List, ℕ, ◌+◌, ◌*◌, ◌≤◌, ◌<◌}
use Rattle.block.specs.Block.{Block}
use Rattle.block.specs.Choice.{CodableChoice, bits, error, keep_number}

-- the three numbers of a choice that the order looks at
pub record Way : Type 0 where
  pub err : ℕ
  pub bit : ℕ
  pub keep : ℕ

abbrev pub way : Block → List ℕ → Way
way B c = record { err = error B 0 c; bit = bits B 0 c; keep = keep_number c }

abbrev pub cost : ℕ → ℕ → Way → ℕ
cost a b w = a * w.err + b * w.bit

pub data Before (a b : ℕ) (v w : Way) : Type 0 where
  cheaper : cost a b v < cost a b w → Before a b v w
  shorter : cost a b v ≡ cost a b w → v.bit < w.bit → Before a b v w
  smaller : cost a b v ≡ cost a b w → v.bit ≡ w.bit → v.keep ≤ w.keep → Before a b v w

-- of the choices that are allowed the first in the order
pub record BestOf (Allowed : List ℕ → Type 0) (B : Block) (a b : ℕ) (c : List ℕ) : Type 0 where
  pub allowed : Allowed c
  pub least : (o : List ℕ) → Allowed o → Before a b (way B c) (way B o)

-- the best choice: every codable choice is allowed
abbrev pub Best : Block → ℕ → ℕ → List ℕ → Type 0
Best B a b c = BestOf (CodableChoice B) B a b c

-- no choice is codable
abbrev pub NoChoice : Block → Type 0
NoChoice B = (o : List ℕ) → CodableChoice B o → ⊥
