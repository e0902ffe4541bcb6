-- For the functions of the merge, and not for a reader of the promises: the still goes on from one corner to the next.
use Rattle.std.specs.Prelude.{◌≡◌, ℕ, ◌*◌, ◌<◌}
use Rattle.block.specs.Block.{Block}
use Rattle.corners.specs.Pair.{Pair}
use Rattle.corners.specs.Merging.{ahead, onward}
use Rattle.attained.specs.Attained.{Smallest}
use Rattle.attained.specs.Chosen.{pair_at}
use Rattle.still.specs.Blocks.{count_of, block_in}
use Rattle.merge.specs.declared.Course.{Course}
use Rattle.merge.specs.Station.{Station, corner, OnWay, Heads, Stationed}
use Rattle.merge.specs.Standing.{at, present_at, corner_at, IsPlayed, top_of, steepest_of, Together, Standing, Same}

-- The block with the steepest way is on it.
pub record MayGo (c : Course) : Type 0 where
  pub played : IsPlayed c
  pub on_way : OnWay (block_in c.search.still (top_of c)) (at c (top_of c))
  pub keep : (i : ℕ) → i < count_of c.search.still → Smallest (block_in c.search.still i) (corner_at c i) (present_at c i).keep
  pub together : Together c

-- Block k has gone its way to its next corner, and the others are as they were.
pub record Moved (c : Course) (k : ℕ) (c' : Course) : Type 0 where
  pub other : (i : ℕ) → (i ≡ k → ⊥) → at c' i ≡ at c i
  pub next : corner_at c' k ≡ ahead (corner_at c k) (at c k).way.run (at c k).way.fall
  pub keep : Smallest (block_in c.search.still k) (corner_at c' k) (present_at c' k).keep
  pub heads : Heads (block_in c.search.still k) c.low (pair_at (at c k).route.known 0) (at c' k)

-- The block with the steepest way has.
pub record Gone (c c' : Course) : Type 0 where
  pub same : Same c c'
  pub moved : Moved c (top_of c) c'
  pub played : IsPlayed c'
  pub together : Together c'

-- All blocks stand, and the still is to go on by its steepest way, which is steeper than (1, low).
pub record Leaving (c : Course) : Type 0 where
  pub a : ℕ
  pub b : ℕ
  pub standing : Standing c a b
  pub above : (steepest_of c).run * c.low < (steepest_of c).fall

-- A block while the still goes on by (r, f): it waits, or has gone its way, which was parallel to (r, f).
pub data Passed (B : Block) (low : ℕ) (H : Pair) (r f : ℕ) (s s' : Station) : Type 0 where
  waits : s' ≡ s → Passed B low H r f s s'
  gone : s.way.fall * r ≡ f * s.way.run → corner s' ≡ ahead (corner s) s.way.run s.way.fall → Stationed B low H r f s' → Passed B low H r f s s'

-- From where all stood to where they are now.
pub record Passing (c c' : Course) : Type 0 where
  pub from : Leaving c
  pub each : (i : ℕ) → i < count_of c.search.still
      → Passed (block_in c.search.still i) c.low (from.standing.goal i) (steepest_of c).run (steepest_of c).fall (at c i) (at c' i)
  pub same : Same c c'
  pub played : IsPlayed c'
  pub together : Together c'

-- Every block whose way is parallel to the steepest has gone it, and no other.
pub record Advanced (c c' : Course) : Type 0 where
  pub standing : Standing c' (steepest_of c).run (steepest_of c).fall
  pub onward : (i : ℕ) → i < count_of c.search.still
      → corner_at c' i ≡ onward (steepest_of c).run (steepest_of c).fall (corner_at c i) (at c i).way.run (at c i).way.fall
  pub same : Same c c'
