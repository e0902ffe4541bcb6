-- For the functions of the merge, and not for a reader of the promises: where all blocks of a course stand, and what they come to.
use Rattle.std.specs.Prelude.{◌≡◌, ℕ, ◌*◌, ◌≤◌, ◌<◌, [], length, take, slice_index, slice_index_or}
use Rattle.std.proofs.Common.{zero-le, suc-le-suc}
use Rattle.corners.specs.Pair.{Pair}
use Rattle.corners.specs.Price.{Wins}
use Rattle.corners.specs.Still.{total}
use Rattle.attained.specs.Attained.{Attained}
use Rattle.attained.specs.Chosen.{none}
use Rattle.forward.specs.declared.Chosen.{Chosen}
use Rattle.kept.specs.Kept.{kept_to}
use Rattle.still.specs.Blocks.{count_of, block_in}
use Rattle.steepest.specs.declared.way.Way.{Way}
use Rattle.steepest.specs.Ways.{WayAsSteep}
use Rattle.steepest.specs.Tournament.{IsTournament}
use Rattle.ways.specs.declared.Route.{Route}
use Rattle.merge.specs.declared.Course.{Course}
use Rattle.merge.specs.Station.{Station, corner, Stationed}

-- the route and the way of no block
abbrev pub no_route : Route
no_route = record { present = none; known = []; height = 0 }

abbrev pub no_way : Way
no_way = record { run = 1; fall = 0; some_run = suc-le-suc zero-le; run_high = suc-le-suc zero-le; fall_high = zero-le }

-- block i's station
abbrev pub at : Course → ℕ → Station
at c i = record { route = slice_index_or c.routes i no_route; way = slice_index_or c.ways i no_way }

abbrev pub present_at : Course → ℕ → Chosen
present_at c i = (at c i).route.present

abbrev pub corner_at : Course → ℕ → Pair
corner_at c i = corner (at c i)

-- The tournament of the blocks' ways is played, and the steepest wins.
pub record IsPlayed (c : Course) : Type 0 where
  pub tournament : IsTournament WayAsSteep (take (count_of c.search.still) c.ways) c.seats
  pub within : count_of c.search.still ≤ length c.ways

-- the block at the root of the tournament, and its way on
abbrev pub top_of : Course → ℕ
top_of c = slice_index c.seats 1

abbrev pub steepest_of : Course → Way
steepest_of c = (at c (top_of c)).way

-- The course's point is the bits, the error and the kept coefficients of all blocks together.
pub record Together (c : Course) : Type 0 where
  pub bits : c.point.bits.0 ≡ (total (corner_at c) (count_of c.search.still)).bits
  pub error : c.point.error.0 ≡ (total (corner_at c) (count_of c.search.still)).error
  pub kept : c.point.kept ≡ kept_to (λ i. (present_at c i).keep) (count_of c.search.still)

-- Every block stands where the price (a, b) has led it; its goal is its winner at (1, low).
pub record Standing (c : Course) (a b : ℕ) : Type 0 where
  pub goal : ℕ → Pair
  pub wins : (i : ℕ) → i < count_of c.search.still → Wins (Attained (block_in c.search.still i)) 1 c.low (goal i)
  pub each : (i : ℕ) → i < count_of c.search.still → Stationed (block_in c.search.still i) c.low (goal i) a b (at c i)
  pub above : a * c.low < b
  pub played : IsPlayed c
  pub together : Together c

-- It is a course of the same still, to the same price.
pub record Same (c c' : Course) : Type 0 where
  pub still : c'.search.still ≡ c.search.still
  pub low : c'.low ≡ c.low
