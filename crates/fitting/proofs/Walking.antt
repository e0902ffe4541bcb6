-- The walk stops where the next corner passes the budget, and goes on to it where it fits.
-- Assumes nothing.
use Rattle.std.proofs.Common.{◌≡◌, refl, ap, ◌∙◌, ℕ, ◌+◌, ◌*◌, ◌≤◌, ◌<◌, List, length, take, slice_index_or, arith}
use Rattle.std.proofs.lemmas.List.{get_or-take, length-take-le}
use Rattle.corners.specs.Pair.{Pair}
use Rattle.corners.specs.Still.{total}
use Rattle.corners.specs.Merging.{onward, growth}
use Rattle.corners.proofs.Sums.{total_same}
use Rattle.corners.proofs.Merge.{merge_steep}
use Rattle.corners.proofs.Passing.{onward_bits, passing_fits}
use Rattle.attained.specs.Attained.{Attained}
use Rattle.still.specs.Blocks.{count_of, block_in}
use Rattle.steepest.specs.declared.way.Way.{Way}
use Rattle.merge.specs.declared.Course.{Course}
use Rattle.merge.specs.Standing.{no_way, at, corner_at, top_of, steepest_of}
use Rattle.merge.specs.Passing.{Leaving, Advanced}
use Rattle.merge.proofs.Station.{course}
use Rattle.merge.proofs.Played.{top_within, flat}
use Rattle.merge.proofs.Totals.{together_bits}
use Rattle.fitting.specs.Fitting.{grown_by, Walks, FitsThere}
use Rattle.fitting.proofs.Growth.{growth_part, growth_same}

module _ {c : Course} {budget : ℕ} (W : Walks c budget) where
  abbrev n : ℕ
  n = count_of c.search.still

  abbrev r : ℕ
  r = (steepest_of c).run

  abbrev f : ℕ
  f = (steepest_of c).fall

  -- the bits by which the still grows
  abbrev grown : ℕ
  grown = growth r f (λ i. (at c i).way.run) (λ i. (at c i).way.fall) n

  above : r * c.low < f
  above = merge_steep (λ i. Attained (block_in c.search.still i)) n (corner_at c) (λ i. (at c i).way.run) (λ i. (at c i).way.fall) (λ i l. (W.standing.each i l).stands)
      r f (steepest_of c).some_run (flat W.standing.played) W.standing.above W.wins (omega (arith, W.standing.together.bits, W.within, W.beyond))

  pub walk_leaves : Leaving c
  walk_leaves = record { a = W.a; b = W.b; standing = W.standing; above = above }

  many : length (take n c.ways) ≡ n
  many = length-take-le n c.ways W.standing.played.within

  pub walk_grows : {along : Way} {ways : List Way} {m : ℕ} → along ≡ steepest_of c → ways ≡ take n c.ways → m ≡ grown_by along ways (length ways) → m ≡ grown
  walk_grows p q h = h ∙ rw (p, q, many) (growth_same r f (λ i. (at c i).way.run) (λ i. (at c i).way.fall)
      (λ i. (slice_index_or (take n c.ways) i no_way).run) (λ i. (slice_index_or (take n c.ways) i no_way).fall) n
      (λ i l. let e = get_or-take n c.ways i no_way l in (ap (λ (w : Way). w.run) e, ap (λ (w : Way). w.fall) e)))

  pub walk_most : c.point.bits.0 ≤ 1677312
  walk_most = omega (arith, together_bits W.standing.together (λ i l. (W.standing.each i l).keep), c.search.still.sound.still.most)

  pub walk_stops : budget < c.point.bits.0 + grown → FitsThere c budget
  walk_stops h = record {
    fits = passing_fits (λ i. Attained (block_in c.search.still i)) n W.standing.goal (corner_at c) (λ i. (at c i).way.run) (λ i. (at c i).way.fall) r f budget
        (λ i l. (W.standing.each i l).stands) (λ i l. course (W.standing.each i l).heads) (flat W.standing.played) above
        (W.standing.each (top_of c) (top_within W.standing.played)).stands.flatter
        (omega (arith, W.standing.together.bits, W.within)) (omega (arith, W.standing.together.bits, h));
    smallest = λ i l. (W.standing.each i l).keep;
    together = W.standing.together;
  }

  module _ {c' : Course} (A : Advanced c c') where
    gone : c'.point.bits.0 ≡ c.point.bits.0 + grown
    gone =
        let e = total_same (corner_at c') (λ i. onward r f (corner_at c i) (at c i).way.run (at c i).way.fall) n A.onward in
        let g = onward_bits r f (corner_at c) (λ i. (at c i).way.run) (λ i. (at c i).way.fall) n in
        omega (
          arith,
          A.standing.together.bits,
          ap (λ (m : ℕ). (total (corner_at c') m).bits) (ap count_of A.same.still),
          W.standing.together.bits,
          ap (λ (P : Pair). P.bits) e,
          g,
        )

    pub walk_more : c.point.bits.0 < c'.point.bits.0
    walk_more = omega (arith, gone, (steepest_of c).some_run, growth_part r f (λ i. (at c i).way.run) (λ i. (at c i).way.fall) n (top_of c) (top_within W.standing.played) refl)

    pub walk_on : c.point.bits.0 + grown ≤ budget → Walks c' budget
    walk_on h = record {
      a = r;
      b = f;
      standing = A.standing;
      goal = W.goal;
      wins = simp (A.same.still, A.same.low) W.wins;
      beyond = W.beyond;
      within = omega (arith, gone, h);
    }
