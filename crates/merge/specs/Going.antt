-- For the private functions of the merge: one block's route is set, its way on is found, and it goes to its next corner.
use Rattle.std.specs.Prelude.{◌≡◌, ℕ, ◌+◌, ◌-◌, ◌^◌, ◌≤◌, ◌<◌}
use Rattle.std.specs.Int.Count.{ones}
use Rattle.block.specs.Block.{Block}
use Rattle.attained.specs.Chosen.{chosen_at, pair_at}
use Rattle.answers.specs.declared.Point.{Point}
use Rattle.forward.specs.declared.Chosen.{Chosen}
use Rattle.steepest.specs.declared.way.Way.{Way}
use Rattle.ways.specs.declared.Route.{Route}
use Rattle.ways.specs.Known.{FoundWay}
use Rattle.merge.specs.Station.{Heads}

-- The route begins at one choice; the other is known ahead, unless it has the same bits.
pub record Aimed (from goal : Chosen) (r : Route) : Type 0 where
  pub present : r.present ≡ from
  pub goal_is : chosen_at r.known 0 ≡ goal
  pub there : r.height ≡ 0 → from.bits.0 ≡ goal.bits.0
  pub ahead : (r.height ≡ 0 → ⊥) → (r.height ≡ 1) × (from.bits.0 ≡ goal.bits.0 → ⊥)

-- The way on is found, or (1, low) stands for it.
pub data Found (B : Block) (low : ℕ) (r : Route) (w : Way) (r' : Route) : Type 0 where
  stop : r.height ≡ 0 → r' ≡ r → w.run ≡ 1 → w.fall ≡ low → Found B low r w r'
  onward : FoundWay B r w r' → Found B low r w r'

-- The nearest corner known is the present one.
pub record Stepped (r r' : Route) : Type 0 where
  pub present : r'.present ≡ chosen_at r.known (r.height - 1)
  pub known : r'.known ≡ r.known
  pub height : r'.height ≡ r.height - 1

-- It is, and the way on from it is found, to the same goal.
pub record NextWay (B : Block) (low : ℕ) (r : Route) (w : Way) (r' : Route) : Type 0 where
  pub present : r'.present ≡ chosen_at r.known (r.height - 1)
  pub heads : Heads B low (pair_at r.known 0) (record { route = r'; way = w })

-- One choice is part of the sum, and another may take its place.
pub record Exchangeable (p : Point) (was now : Chosen) : Type 0 where
  pub bits_low : was.bits.0 ≤ p.bits.0
  pub bits_high : p.bits.0 + now.bits.0 < 2 ^ 64
  pub error_low : was.error.0 ≤ p.error.0
  pub error_high : p.error.0 + now.error.0 < 2 ^ 64
  pub kept_low : ones was.keep ≤ p.kept
  pub kept_high : p.kept ≤ 65536

pub record Exchanged (p : Point) (was now : Chosen) (p' : Point) : Type 0 where
  pub bits : p'.bits.0 + was.bits.0 ≡ p.bits.0 + now.bits.0
  pub error : p'.error.0 + was.error.0 ≡ p.error.0 + now.error.0
  pub kept : p'.kept + ones was.keep ≡ p.kept + ones now.keep
