-- For the functions of the merge, and not for a reader of the promises: the blocks set out from their choices at one price to those at another.
use Rattle.std.specs.Prelude.{◌≡◌, ℕ, ◌<◌, ◌≤◌, List, length}
use Rattle.forward.specs.declared.Chosen.{Chosen}
use Rattle.attained.specs.Chosen.{chosen_at, pair_at}
use Rattle.still.specs.declared.Still.{Still}
use Rattle.still.specs.Blocks.{count_of, block_in}
use Rattle.winners.specs.Winners.{Winners}
use Rattle.merge.specs.declared.Course.{Course}
use Rattle.merge.specs.Station.{Heads}
use Rattle.merge.specs.Standing.{at, present_at, Standing}

-- What the blocks set out from are the winners at a price (1, high), the goals those at (1, low).
pub record Ends (still : Still) (low : ℕ) (from goals : List Chosen) : Type 0 where
  pub high : ℕ
  pub above : low < high
  pub winners : Winners (block_in still) (count_of still) 1 high from
  pub goals_win : Winners (block_in still) (count_of still) 1 low goals
  pub from_count : count_of still ≤ length from
  pub goals_count : count_of still ≤ length goals

-- The first i blocks head for their goals.
pub record Headed (still : Still) (low : ℕ) (from goals : List Chosen) (c : Course) (i : ℕ) : Type 0 where
  pub still_is : c.search.still ≡ still
  pub low_is : c.low ≡ low
  pub routes_long : length c.routes ≡ 1024
  pub ways_long : length c.ways ≡ 1024
  pub present : (j : ℕ) → j < i → present_at c j ≡ chosen_at from j
  pub heads : (j : ℕ) → j < i → Heads (block_in still j) low (pair_at goals j) (at c j)

-- All blocks stand at what they set out from.
pub record SetOut (still : Still) (low : ℕ) (from : List Chosen) (c : Course) : Type 0 where
  pub a : ℕ
  pub b : ℕ
  pub standing : Standing c a b
  pub present : (i : ℕ) → i < count_of still → present_at c i ≡ chosen_at from i
  pub still_is : c.search.still ≡ still
  pub low_is : c.low ≡ low
