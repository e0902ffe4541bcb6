-- What the functions that find a way promise each other: no public contract speaks of it.
use Rattle.std.specs.Prelude.{◌≡◌, ℕ, ◌+◌, ◌-◌, ◌≤◌, ◌<◌}
use Rattle.block.specs.Block.{Block}
use Rattle.block.specs.Limits.{most_bits, most_error}
use Rattle.corners.specs.Pair.{Pair}
use Rattle.attained.specs.Chosen.{chosen_at, pair_at}
use Rattle.forward.specs.declared.Chosen.{Chosen}
use Rattle.ways.specs.declared.Route.{Route}
use Rattle.ways.specs.Known.{most_known, corner_of, Known}

-- the nearest corner that is known
abbrev pub nearest : Route → Pair
nearest r = pair_at r.known (r.height - 1)

-- the run and the fall of the line to it
abbrev pub run_to : Route → ℕ
run_to r = (nearest r).bits - (corner_of r).bits

abbrev pub fall_to : Route → ℕ
fall_to r = (corner_of r).error - (nearest r).error

-- The nearest known corner has more bits than the present one and less error, and no more than a block can have.
pub record Reaches (r : Route) : Type 0 where
  pub some : 0 < r.height
  pub most : r.height ≤ most_known
  pub more : (corner_of r).bits < (nearest r).bits
  pub less : (nearest r).error < (corner_of r).error
  pub run_most : (nearest r).bits ≤ most_bits
  pub fall_most : (corner_of r).error ≤ most_error

-- One corner more is known, and the nearest: those before it are as they were, the farthest among them.
pub record Remembered (before : Route) (found : Chosen) (after : Route) : Type 0 where
  pub above : 1 < after.height
  pub most : after.height ≤ most_known
  pub within : after.height ≤ before.height + 1
  pub corner : chosen_at after.known (after.height - 1) ≡ found
  pub rest : (k : ℕ) → k < after.height - 1 → chosen_at after.known k ≡ chosen_at before.known k
  pub present : after.present ≡ before.present

-- While the way on is sought: the corners known now, with the farthest of those known at first.
pub record Seeks (B : Block) (route now : Route) : Type 0 where
  pub present : now.present ≡ route.present
  pub known : Known B (corner_of route) now.height now.known
  pub goal : chosen_at now.known 0 ≡ chosen_at route.known 0
