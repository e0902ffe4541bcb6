-- The corners known ahead of a block's present corner, and what finding its way on answers.
use Rattle.std.specs.Prelude.{◌≡◌, List, ℕ, ◌-◌, ◌≤◌, ◌<◌}
use Rattle.block.specs.Block.{Block}
use Rattle.corners.specs.Pair.{Pair}
use Rattle.corners.specs.Corner.{Corner}
use Rattle.corners.specs.Merging.{ahead, Way}
use Rattle.attained.specs.Attained.{Attained, Smallest}
use Rattle.attained.specs.Chosen.{chosen_at, pair_in, pair_at}
use Rattle.forward.specs.declared.Chosen.{Chosen}
use Rattle.steepest.specs.declared.way.Way as W
use Rattle.ways.specs.declared.Route.{Route}

-- how many corners are known ahead of a block at most
abbrev pub most_known : ℕ
most_known = 7

-- The corners known ahead of `C`: `height` of them, the farthest first and the nearest last, each with the smallest keep number of its choices.
pub record Known (B : Block) (C : Pair) (height : ℕ) (known : List Chosen) : Type 0 where
  pub some : 0 < height
  pub most : height ≤ most_known
  pub corner : (j : ℕ) → j < height → Corner (Attained B) (pair_at known j)
  pub beyond : (j : ℕ) → j < height → C.bits < (pair_at known j).bits
  pub falling : (j k : ℕ) → j < k → k < height → (pair_at known k).bits < (pair_at known j).bits
  pub keep : (j : ℕ) → j < height → Smallest B (pair_at known j) (chosen_at known j).keep

-- the bits and the error of the present corner
abbrev pub corner_of : Route → Pair
corner_of r = pair_in r.present

-- The way on from the present corner is found: it leads to the nearest of the corners known now, and the farthest is the same.
pub record FoundWay (B : Block) (route : Route) (w : W.Way) (after : Route) : Type 0 where
  pub present : after.present ≡ route.present
  pub known : Known B (corner_of route) after.height after.known
  pub goal : chosen_at after.known 0 ≡ chosen_at route.known 0
  pub way : Way (Attained B) (corner_of route) w.run w.fall
  pub top : pair_at after.known (after.height - 1) ≡ ahead (corner_of route) w.run w.fall
