-- Choices from the last kept position down: the candidates of the search. Only its own functions speak of them.
use Rattle.std.specs.Prelude.{◌≡◌, List, [], ◌∷◌, ℕ, ◌+◌, ◌-◌, ◌<◌}
use Rattle.block.specs.Block.{Block, LevelCode, level_bits, dropped}
use Rattle.block.specs.Choice.{keep_number}
use Rattle.price.specs.Best.{Way, Before}

-- the last kept position, 0 where nothing is kept
abbrev pub top : List ℕ → ℕ
top [] = 0
top (k ∷ r) = k

module _ (B : Block) where
  -- positions that can be kept, and whose codes exist; their bits, and the error before and at the last of them
  abbrev pub Chain : List ℕ → Type 0
  Chain [] = Unit {0}
  Chain (k ∷ r) = (top r < k) × (k < 64) × (0 < B.size k) × Chain r

  abbrev pub Coded : List ℕ → Type 0
  Coded [] = Unit {0}
  Coded (k ∷ r) = LevelCode B.len (k - top r - 1) (B.size k) × Coded r

  abbrev pub sum : List ℕ → ℕ
  sum [] = 0
  sum (k ∷ r) = level_bits B.len (k - top r - 1) (B.size k) + sum r

  abbrev pub gone : List ℕ → ℕ
  gone [] = 0
  gone (k ∷ r) = gone r + dropped B.drops (top r + 1) (k - top r - 1) + B.keeps k

  -- the error with everything after the last kept position dropped
  abbrev pub miss : List ℕ → ℕ
  miss r = gone r + dropped B.drops (top r + 1) (63 - top r)

  -- the candidate that a chain is: everything later dropped, n more bits
  abbrev pub stem : List ℕ → ℕ → Way
  stem r n = record { err = miss r; bit = sum r + n; keep = keep_number r }

-- the best of the chains that end with k, end of block left out
pub record Candidate (B : Block) (a b k : ℕ) (r : List ℕ) : Type 0 where
  pub chain : Chain B r
  pub coded : Coded B r
  pub ends : top r ≡ k
  pub least : (o : List ℕ) → Chain B o → Coded B o → top o ≡ k → Before a b (stem B r 0) (stem B o 0)

abbrev pub NoCandidate : Block → ℕ → Type 0
NoCandidate B k = (o : List ℕ) → Chain B o → Coded B o → top o ≡ k → ⊥
