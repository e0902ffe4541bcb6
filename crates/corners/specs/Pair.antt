-- Pairs of bits and error, and what they cost at a price.
use Rattle.std.specs.Prelude.{ℕ, ◌+◌, ◌*◌}

pub record Pair : Type 0 where
  pub bits : ℕ
  pub error : ℕ

-- The cost at a price of `a` on error and `b` on bits.
abbrev pub cost : ℕ → ℕ → Pair → ℕ
cost a b P = a * P.error + b * P.bits
