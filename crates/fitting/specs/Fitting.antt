-- For the function that walks to a budget, and not for a reader of the promises: where it stands, and where it ends.
use Rattle.std.specs.Prelude.{List, ℕ, ◌≤◌, ◌<◌, slice_index_or}
use Rattle.corners.specs.Pair.{Pair}
use Rattle.corners.specs.Price.{Wins}
use Rattle.corners.specs.Still.{total, Attains}
use Rattle.corners.specs.Fits.{Fits}
use Rattle.corners.specs.Merging.{growth}
use Rattle.attained.specs.Attained.{Attained, Smallest}
use Rattle.still.specs.Blocks.{count_of, block_in}
use Rattle.steepest.specs.declared.way.Way.{Way}
use Rattle.merge.specs.declared.Course.{Course}
use Rattle.merge.specs.Standing.{no_way, present_at, corner_at, Together, Standing}

-- the bits by which the first n ways grow, of which those go on that are parallel to the first argument
abbrev pub grown_by : Way → List Way → ℕ → ℕ
grown_by along ways n = growth along.run along.fall (λ i. (slice_index_or ways i no_way).run) (λ i. (slice_index_or ways i no_way).fall) n

-- All blocks stand at a corner within the budget, and the pair that wins at (1, low), to which they go, is beyond it.
pub record Walks (c : Course) (budget : ℕ) : Type 0 where
  pub a : ℕ
  pub b : ℕ
  pub standing : Standing c a b
  pub goal : Pair
  pub wins : Wins (Attains (λ i. Attained (block_in c.search.still i)) (count_of c.search.still)) 1 c.low goal
  pub beyond : budget < goal.bits
  pub within : c.point.bits.0 ≤ budget

-- The present corner is the one that fits, and the keep numbers are its choice.
pub record FitsThere (c : Course) (budget : ℕ) : Type 0 where
  pub fits : Fits (Attains (λ i. Attained (block_in c.search.still i)) (count_of c.search.still)) budget (total (corner_at c) (count_of c.search.still))
  pub smallest : (i : ℕ) → i < count_of c.search.still → Smallest (block_in c.search.still i) (corner_at c i) (present_at c i).keep
  pub together : Together c
