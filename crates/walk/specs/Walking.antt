-- For the functions of the walk, and not for a reader of the promises: a course at a corner between the still's first and its last.
use Rattle.std.specs.Prelude.{◌≡◌, List, length, set, ℕ, ◌+◌, ◌*◌, ◌≤◌, ◌<◌}
use Rattle.corners.specs.Pair.{Pair}
use Rattle.corners.specs.Price.{Least}
use Rattle.corners.specs.Still.{total, Attains}
use Rattle.corners.specs.Merging.{SoFar}
use Rattle.attained.specs.Attained.{Attained}
use Rattle.answers.specs.declared.Point.{Point}
use Rattle.still.specs.declared.Still.{Still}
use Rattle.still.specs.Blocks.{count_of, block_in}
use Rattle.merge.specs.declared.Course.{Course}
use Rattle.merge.specs.Standing.{corner_at, Standing}
use Rattle.walk.specs.Written.{Written}

-- what all the blocks of a still attain
abbrev pub StillAttains : Still → Pair → Type 0
StillAttains s = Attains (λ i. Attained (block_in s i)) (count_of s)

abbrev pub pair_of : Point → Pair
pair_of p = record { bits = p.bits.0; error = p.error.0 }

-- The blocks stand at the still's first corner, on their course to its last.
pub record First (c : Course) : Type 0 where
  pub a : ℕ
  pub b : ℕ
  pub standing : Standing c a b
  pub low_is : c.low ≡ 0
  pub least : Least (StillAttains c.search.still) 0 1 (total (corner_at c) (count_of c.search.still))

-- The corners with fewer bits than `T`, to which the price (a, b) has led, are listed: these, `count` of them.
pub record Listed (s : Still) (a b : ℕ) (T : Pair) (count : ℕ) (before after : List ℕ) : Type 0 where
  pub list : List Pair
  pub so_far : SoFar (StillAttains s) list a b T
  pub size : length list ≡ count
  pub written : Written (block_in s) (count_of s) list before after

-- The blocks stand at a corner, and those with fewer bits are listed.
pub record Lists (c : Course) (before after : List ℕ) (count : ℕ) : Type 0 where
  pub a : ℕ
  pub b : ℕ
  pub standing : Standing c a b
  pub low_is : c.low ≡ 0
  pub listed : Listed c.search.still a b (total (corner_at c) (count_of c.search.still)) count before after
  pub few : count ≤ c.point.bits.0

-- A corner's three numbers are entered at place `count` of the list, or there is no room for them.
pub data Entered (count : ℕ) (p : Point) (out after : List ℕ) : Type 0 where
  past : length out < 3 * count + 3 → after ≡ out → Entered count p out after
  entered : 3 * count + 3 ≤ length out → after ≡ set (set (set out (3 * count) p.bits.0) (3 * count + 1) p.error.0) (3 * count + 2) p.kept
      → Entered count p out after
