-- For the functions of the merge, and not for a reader of the promises: where one block stands on its course to its goal.
use Rattle.std.specs.Prelude.{◌≡◌, ℕ, ◌-◌}
use Rattle.block.specs.Block.{Block}
use Rattle.corners.specs.Pair.{Pair}
use Rattle.corners.specs.Merging.{ahead, Way as LeadsOn, Stands}
use Rattle.attained.specs.Attained.{Attained, Smallest}
use Rattle.attained.specs.Chosen.{pair_at}
use Rattle.steepest.specs.declared.way.Way.{Way}
use Rattle.ways.specs.declared.Route.{Route}
use Rattle.ways.specs.Known.{corner_of, Known}

-- a block's route and its way on
pub record Station : Type 0 where
  pub route : Route
  pub way : Way

-- the corner at which it stands
abbrev pub corner : Station → Pair
corner s = corner_of s.route

-- The way on leads to the nearest of the corners known ahead.
pub record OnWay (B : Block) (s : Station) : Type 0 where
  pub known : Known B (corner s) s.route.height s.route.known
  pub way : LeadsOn (Attained B) (corner s) s.way.run s.way.fall
  pub top : pair_at s.route.known (s.route.height - 1) ≡ ahead (corner s) s.way.run s.way.fall

-- A block has reached its goal `H`, and (1, low) stands for its way; or the goal is the farthest of the corners known ahead.
pub data Heads (B : Block) (low : ℕ) (H : Pair) (s : Station) : Type 0 where
  arrived : corner s ≡ H → s.way.run ≡ 1 → s.way.fall ≡ low → s.route.height ≡ 0 → Heads B low H s
  going : OnWay B s → pair_at s.route.known 0 ≡ H → Heads B low H s

-- A block stands where the price (a, b) has led it, at the choice with the smallest keep number.
pub record Stationed (B : Block) (low : ℕ) (H : Pair) (a b : ℕ) (s : Station) : Type 0 where
  pub stands : Stands (Attained B) a b (corner s) s.way.run s.way.fall
  pub keep : Smallest B (corner s) s.route.present.keep
  pub heads : Heads B low H s
