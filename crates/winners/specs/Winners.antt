-- The best choices of all blocks of a still at a price, as a slice holds them, and what they come to; or the first block without one.
use Rattle.std.specs.Prelude.{◌≡◌, Result, Ok, Err, List, ℕ, ◌≤◌, ◌<◌, length}
use Rattle.block.specs.Block.{Block}
use Rattle.block.specs.Limits.{most_bits, most_error}
use Rattle.corners.specs.Still.{total}
use Rattle.forward.specs.declared.Chosen.{Chosen}
use Rattle.attained.specs.Attained.{Gives}
use Rattle.attained.specs.Chosen.{chosen_at, pair_at}
use Rattle.attained.specs.Uncodable.{FirstUncodable}
use Rattle.answers.specs.declared.Point.{Point}
use Rattle.kept.specs.Kept.{kept_to}
use Rattle.winners.specs.declared.Uncodable.{Uncodable}

pub record Winners (B : ℕ → Block) (n a b : ℕ) (each : List Chosen) : Type 0 where
  pub gives : (i : ℕ) → i < n → Gives (B i) a b (pair_at each i) (chosen_at each i).keep

-- the bits, the error and the kept coefficients of the first n choices together
pub record Sums (each : List Chosen) (n : ℕ) (p : Point) : Type 0 where
  pub bits : p.bits.0 ≡ (total (pair_at each) n).bits
  pub error : p.error.0 ≡ (total (pair_at each) n).error
  pub kept : p.kept ≡ kept_to (λ i. (chosen_at each i).keep) n

-- choices of no more blocks than a still has, each within its limits, so that their sums fit
pub record Addable (each : List Chosen) : Type 0 where
  pub few : length each ≤ 1024
  pub bits_most : (i : ℕ) → i < length each → (chosen_at each i).bits.0 ≤ most_bits
  pub error_most : (i : ℕ) → i < length each → (chosen_at each i).error.0 ≤ most_error

pub data Outcomes (B : ℕ → Block) (n a b : ℕ) (each : List Chosen) (r : Result Point Uncodable) : Type 0 where
  all : (p : Point) → Winners B n a b each → Sums each n p → r ≡ Ok p → Outcomes B n a b each r
  uncodable : (i : ℕ) → FirstUncodable B n i → r ≡ Err (record { block = i }) → Outcomes B n a b each r
