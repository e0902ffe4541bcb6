-- The range of prices: what its two ends say of a price inside it, and how an end moves there.
use Rattle.std.proofs.Common.{◌≡◌, ℕ, ◌<◌, ◌≤◌, arith}
use Rattle.block.specs.Block.{Block}
use Rattle.halving.specs.declared.End.{End}
use Rattle.halving.specs.Brackets.{EndAt, Brackets, Inside}

module _ {B : ℕ → Block} {n budget : ℕ} {low high : End} (k : Brackets B n budget low high) {b : ℕ} (above : low.price < b) (below : b < high.price) where
  pub price_inside : Inside B n b low high
  price_inside = record { above = above; below = below; most = k.most; cheap = k.low_end.won; dear = k.high_end.won }

  module _ {e : End} (at : e.price ≡ b) (is : EndAt B n e) where
    pub high_moves : e.point.bits.0 ≤ budget → Brackets B n budget low e
    high_moves l = record { rises = omega arith; most = omega (arith, k.most); low_end = k.low_end; high_end = is; fits = l; passes = k.passes }

    pub low_moves : budget < e.point.bits.0 → Brackets B n budget e high
    low_moves l = record { rises = omega arith; most = k.most; low_end = is; high_end = k.high_end; fits = k.fits; passes = l }
