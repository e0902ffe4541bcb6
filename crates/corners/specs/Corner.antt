-- Corners: some two positive whole prices make `P` strictly cheaper than every other attainable pair.
use Rattle.std.specs.Prelude.{◌≡◌, ℕ, ◌≤◌, ◌<◌}
use Rattle.corners.specs.Pair.{Pair, cost}

pub record Corner (Att : Pair → Type 0) (P : Pair) : Type 0 where
  pub a : ℕ
  pub b : ℕ
  pub a_pos : 1 ≤ a
  pub b_pos : 1 ≤ b
  pub attained : Att P
  pub cheaper : (X : Pair) → Att X → ¬ (X ≡ P) → cost a b P < cost a b X
