-- What the budget job promises.
use Rattle.std.specs.Prelude.{◌≡◌, Result, List, ℕ, ◌/◌, ◌<◌, ℤ, length, get_or}
use Rattle.block.specs.Block.{Block}
use Rattle.corners.specs.Pair.{Pair}
use Rattle.corners.specs.Still.{Attains}
use Rattle.corners.specs.Fits.{Fits, LeastBits}
use Rattle.attained.specs.Attained.{block_at, Attained}
use Rattle.attained.specs.Uncodable.{FirstUncodable}
use Rattle.merge.specs.CornerChoice.{CornerChoice}
use Rattle.answers.specs.declared.Point.{Point}
use Rattle.answers.specs.declared.Refusal.{Refusal}
use Rattle.answers.specs.Said.{fine, refuse, said_point, point, refused}
use Rattle.still.specs.Refusals.{budget_verdict}
use Rattle.kept.specs.Kept.{kept_of}

-- the answer r and the keep slice after the call, where no check refuses: 7, 9, or the corner that fits with its choice
pub data Fitted (B : ℕ → Block) (n budget : ℕ) (before : List ℕ) (r : Result Point Refusal) (after : List ℕ) : Type 0 where
  uncodable : (i : ℕ) → FirstUncodable B n i → said_point r ≡ refused 7 i 0 → after ≡ before → Fitted B n budget before r after
  passes : (m : ℕ) → LeastBits (Attains (λ i. Attained (B i)) n) m → budget < m
      → said_point r ≡ refused 9 m 0 → after ≡ before → Fitted B n budget before r after
  fits : (P : Pair) → Fits (Attains (λ i. Attained (B i)) n) budget P → CornerChoice B n P (λ i. get_or after i 0)
      → length after ≡ length before → said_point r ≡ point P.bits P.error (kept_of after) → Fitted B n budget before r after

-- the same for whatever is lent
pub data BudgetMeets (levels : List ℤ) (steps lengths : List ℕ) (budget : ℕ) (before : List ℕ) (r : Result Point Refusal) (after : List ℕ) : Type 0 where
  refuses : (number first second : ℕ) → budget_verdict levels steps lengths (length before) ≡ refuse number first second
      → said_point r ≡ refused number first second → after ≡ before
      → BudgetMeets levels steps lengths budget before r after
  answers : budget_verdict levels steps lengths (length before) ≡ fine
      → Fitted (block_at levels steps lengths) (length levels / 64) budget before r after
      → BudgetMeets levels steps lengths budget before r after
