-- For the functions of this crate and of the budget job, and not for a reader of the promises: the ends of a range of prices, and two that bracket a budget.
use Rattle.std.specs.Prelude.{◌≡◌, ℕ, ◌≤◌, ◌<◌}
use Rattle.block.specs.Block.{Block}
use Rattle.block.specs.Limits.{most_bits}
use Rattle.price.specs.Accepted.{most_on_bits}
use Rattle.attained.specs.Chosen.{chosen_at}
use Rattle.winners.specs.Winners.{Sums}
use Rattle.halving.specs.declared.End.{End}
use Rattle.halving.specs.Won.{WonAt}

-- An end of the range: the winners at its price, and what they come to.
pub record EndAt (B : ℕ → Block) (n : ℕ) (e : End) : Type 0 where
  pub won : WonAt B n e.price e.each
  pub sums : Sums e.each n e.point

-- The winners at the higher price fit the budget, and those at the lower pass it.
pub record Brackets (B : ℕ → Block) (n budget : ℕ) (low high : End) : Type 0 where
  pub rises : low.price < high.price
  pub most : high.price ≤ most_on_bits
  pub low_end : EndAt B n low
  pub high_end : EndAt B n high
  pub fits : high.point.bits.0 ≤ budget
  pub passes : budget < low.point.bits.0

-- A price inside the range of two ends.
pub record Inside (B : ℕ → Block) (n b : ℕ) (low high : End) : Type 0 where
  pub above : low.price < b
  pub below : b < high.price
  pub most : high.price ≤ most_on_bits
  pub cheap : WonAt B n low.price low.each
  pub dear : WonAt B n high.price high.each

-- The chords of n blocks to this end add no more bits than a block's.
pub record Chords (n : ℕ) (low : End) : Type 0 where
  pub few : n ≤ 1024
  pub bits_most : (i : ℕ) → i < n → (chosen_at low.each i).bits.0 ≤ most_bits

-- The end is another's as far as n blocks go.
pub record Taken (n : ℕ) (other e : End) : Type 0 where
  pub price : e.price ≡ other.price
  pub point : e.point ≡ other.point
  pub chosen : (i : ℕ) → i < n → chosen_at e.each i ≡ chosen_at other.each i
