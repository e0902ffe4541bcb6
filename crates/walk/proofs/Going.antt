-- A course goes on by its steepest way: where its blocks go, and that they come to more bits together.
-- Assumes nothing.
use Rattle.std.proofs.Common.{◌≡◌, refl, ap, sym, subst, ℕ, ◌+◌, ◌*◌, ◌≤◌, ◌<◌, arith}
use borrow.Author.Tests.{eq-eqb}
use Rattle.block.specs.Limits.{most_bits}
use Rattle.corners.specs.Pair.{Pair}
use Rattle.corners.specs.Still.{total}
use Rattle.corners.specs.Merging.{Stands, Goes, onward}
use Rattle.corners.proofs.Corners.{pair_path}
use Rattle.corners.proofs.Moves.{stands_run}
use Rattle.corners.proofs.Merge.{merge_more}
use Rattle.corners.proofs.Passing.{goes_onward}
use Rattle.attained.specs.Attained.{Attained}
use Rattle.still.specs.Blocks.{count_of, block_in}
use Rattle.merge.specs.declared.Course.{Course}
use Rattle.merge.specs.CornerChoice.{CornerKept}
use Rattle.merge.specs.Standing.{at, present_at, corner_at, top_of, steepest_of, Standing}
use Rattle.merge.specs.Passing.{Leaving, Advanced}
use Rattle.merge.proofs.Station.{course}
use Rattle.merge.proofs.Played.{top_within, flat}
use Rattle.merge.proofs.Totals.{together_bits}
use Rattle.walk.specs.Walking.{pair_of}

-- the blocks' runs and falls
abbrev pub runs : Course → ℕ → ℕ
runs c i = (at c i).way.run

abbrev pub falls : Course → ℕ → ℕ
falls c i = (at c i).way.fall

module _ {c : Course} {a b : ℕ} (t : Standing c a b) where
  abbrev n : ℕ
  n = count_of c.search.still

  pub stand : (i : ℕ) → i < n → Stands (Attained (block_in c.search.still i)) a b (corner_at c i) (runs c i) (falls c i)
  stand i l = (t.each i l).stands

  pub pair_is : pair_of c.point ≡ total (corner_at c) n
  pair_is = pair_path (pair_of c.point) (total (corner_at c) n) t.together.bits t.together.error

  pub standing_kept : CornerKept (block_in c.search.still) n (pair_of c.point) c.point.kept
  standing_kept = record {
    keep = λ i. (present_at c i).keep;
    choice = record { pick = corner_at c; smallest = λ i l. (t.each i l).keep; adds = pair_is };
    counts = t.together.kept;
  }

  pub standing_most : c.point.bits.0 ≤ most_bits * n
  standing_most = together_bits t.together (λ i l. (t.each i l).keep)

module _ {c c' : Course} (L : Leaving c) (A : Advanced c c') where
  abbrev r : ℕ
  r = (steepest_of c).run

  abbrev f : ℕ
  f = (steepest_of c).fall

  abbrev m : ℕ
  m = count_of c.search.still

  pub steep : L.a * f < L.b * r
  steep = (stand L.standing (top_of c) (top_within L.standing.played)).flatter

  pub gone : (i : ℕ) → i < m → Goes (Attained (block_in c.search.still i)) r f (corner_at c i) (runs c i) (falls c i) (corner_at c' i)
  gone i l =
      subst (Goes (Attained (block_in c.search.still i)) r f (corner_at c i) (runs c i) (falls c i)) (sym (A.onward i l))
      (goes_onward r f (course (L.standing.each i l).heads) L.above (flat L.standing.played i l))

  -- The steepest block has moved.
  moved : (corner_at c (top_of c)).bits < (corner_at c' (top_of c)).bits
  moved = omega (
    arith,
    ap (λ (P : Pair). P.bits) (A.onward (top_of c) (top_within L.standing.played)),
    stands_run (stand L.standing (top_of c) (top_within L.standing.played)),
    went,
  )
    where
      went : (onward r f (corner_at c (top_of c)) (runs c (top_of c)) (falls c (top_of c))).bits ≡ (corner_at c (top_of c)).bits + runs c (top_of c)
      went = rw (eq-eqb (falls c (top_of c) * r) (f * runs c (top_of c)) refl)

  pub more : (total (corner_at c) m).bits < (total (corner_at c') m).bits
  more = merge_more (λ i. Attained (block_in c.search.still i)) m (corner_at c) (runs c) (falls c) (stand L.standing) (corner_at c') gone steep (top_of c)
      (top_within L.standing.played) moved

  pub more_bits : c.point.bits.0 < c'.point.bits.0
  more_bits = omega (arith, L.standing.together.bits, A.standing.together.bits, more, ap (λ (k : ℕ). (total (corner_at c') k).bits) (ap count_of A.same.still))
