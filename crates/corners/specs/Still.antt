-- What a still attains: the sums of one attainable pair for each block.
use Rattle.std.specs.Prelude.{◌≡◌, ℕ, zero, suc, ◌+◌, ◌<◌}
use Rattle.corners.specs.Pair.{Pair}

-- The sum of the first n pairs.
abbrev pub total : (ℕ → Pair) → ℕ → Pair
total f zero = record { bits = 0; error = 0 }
total f (suc n) = record { bits = (total f n).bits + (f n).bits; error = (total f n).error + (f n).error }

-- `A i` are the pairs that some codable choice for block i has.
pub record Attains (A : ℕ → Pair → Type 0) (n : ℕ) (P : Pair) : Type 0 where
  pub pick : ℕ → Pair
  pub each : (i : ℕ) → i < n → A i (pick i)
  pub adds : P ≡ total pick n
