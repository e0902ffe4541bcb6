-- What a budget gives: the corner with most bits not above it, or the least attainable bits where none fits.
use Rattle.std.specs.Prelude.{◌≡◌, ℕ, ◌≤◌}
use Rattle.corners.specs.Pair.{Pair}
use Rattle.corners.specs.Corner.{Corner}

pub record Fits (Att : Pair → Type 0) (budget : ℕ) (P : Pair) : Type 0 where
  pub corner : Corner Att P
  pub within : P.bits ≤ budget
  pub most : (Q : Pair) → Corner Att Q → Q.bits ≤ budget → Q.bits ≤ P.bits

-- Some attainable pair has m bits, and none has fewer.
pub record LeastBits (Att : Pair → Type 0) (m : ℕ) : Type 0 where
  pub pair : Pair
  pub attained : Att pair
  pub bits : pair.bits ≡ m
  pub least : (X : Pair) → Att X → m ≤ X.bits
