-- For the private function of the budget job, and not for a reader of the promises: what fits a budget, with its keep numbers.
use Rattle.std.specs.Prelude.{◌≡◌, List, ℕ, get_or}
use Rattle.block.specs.Block.{Block}
use Rattle.corners.specs.Pair.{Pair}
use Rattle.corners.specs.Still.{Attains}
use Rattle.corners.specs.Fits.{Fits}
use Rattle.attained.specs.Attained.{Attained}
use Rattle.merge.specs.CornerChoice.{CornerChoice}
use Rattle.answers.specs.declared.Point.{Point}
use Rattle.kept.specs.Kept.{kept_of}

abbrev pub pair_told : Point → Pair
pair_told p = record { bits = p.bits.0; error = p.error.0 }

-- The point is that of the corner that fits the budget, and the keep numbers are its choice.
pub record FitsWith (B : ℕ → Block) (n budget : ℕ) (p : Point) (keep : List ℕ) : Type 0 where
  pub fits : Fits (Attains (λ i. Attained (B i)) n) budget (pair_told p)
  pub choice : CornerChoice B n (pair_told p) (λ i. get_or keep i 0)
  pub kept : p.kept ≡ kept_of keep
