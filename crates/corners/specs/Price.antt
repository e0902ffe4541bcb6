-- What a price gives, of attainable pairs `Att`: the least cost, then the fewest bits.
use Rattle.std.specs.Prelude.{◌≡◌, ℕ, ◌≤◌}
use Rattle.corners.specs.Pair.{Pair, cost}

-- No attainable pair is cheaper than `P`.
abbrev pub Least : (Pair → Type 0) → ℕ → ℕ → Pair → Type 0
Least Att a b P = (X : Pair) → Att X → cost a b P ≤ cost a b X

pub record Wins (Att : Pair → Type 0) (a b : ℕ) (P : Pair) : Type 0 where
  pub attained : Att P
  pub least : Least Att a b P
  pub fewest : (X : Pair) → Att X → cost a b X ≡ cost a b P → P.bits ≤ X.bits
