-- The block with the steepest way goes it: its route and its way are written, the others are as they were, and all blocks come to the sums with its next corner.
-- Assumes nothing.
use Rattle.std.proofs.Common.{◌≡◌, refl, ap, sym, subst, ◌∙◌, ℕ, ◌-◌, ◌<◌, length, slice_index_or, slice_set, get_or-set_same, get_or-set_other, arith}
use Rattle.attained.specs.Attained.{Smallest}
use Rattle.attained.specs.Chosen.{pair_in, pair_at}
use Rattle.attained.proofs.Winning.{attained_bits, attained_error}
use Rattle.still.specs.Blocks.{count_of, block_in}
use Rattle.still.proofs.Blocks.{block_in_limits}
use Rattle.steepest.specs.declared.way.Way.{Way}
use Rattle.ways.specs.declared.Route.{Route}
use Rattle.merge.specs.declared.Course.{Course}
use Rattle.merge.specs.Station.{Station, corner, Heads}
use Rattle.merge.specs.Standing.{no_route, no_way, at, present_at, IsPlayed, top_of, Same}
use Rattle.merge.specs.Going.{NextWay, Exchangeable, Exchanged}
use Rattle.merge.specs.Passing.{MayGo, Moved, Gone}
use Rattle.merge.proofs.Station.{attains}
use Rattle.merge.proofs.Played.{top_within}
use Rattle.merge.proofs.Totals.{exchangeable, exchanged}

-- Block k's route and way are written.
module _ (c c' : Course) (k : ℕ) (r : Route) (w : Way) (routes : c'.routes ≡ slice_set c.routes k r) (ways : c'.ways ≡ slice_set c.ways k w) where
  pub at_written : k < length c.routes → k < length c.ways → at c' k ≡ record { route = r; way = w }
  at_written x y = rw (routes, ways, get_or-set_same c.routes k r no_route x, get_or-set_same c.ways k w no_way y) refl

  pub at_other : (i : ℕ) → (i ≡ k → ⊥) → at c' i ≡ at c i
  at_other i u = rw (routes, ways, get_or-set_other c.routes k i r no_route u, get_or-set_other c.ways k i w no_way u) refl

module _ {c : Course} {k : ℕ} {r : Route} {w : Way} (m : MayGo c) (root : k ≡ top_of c) (x : NextWay (block_in c.search.still k) c.low (at c k).route w r) where
  within : k < count_of c.search.still
  within = rw root (top_within m.played)

  next : Smallest (block_in c.search.still k) (pair_in r.present) r.present.keep
  next = let o = m.on_way in rw (x.present, root) (o.known.keep ((at c (top_of c)).route.height - 1) (omega (arith, o.known.some)))

  pub may_exchange : k < length c.routes → Exchangeable c.point (present_at c k) (slice_index_or (slice_set c.routes k r) k no_route).present
  may_exchange l = rw (get_or-set_same c.routes k r no_route l) (exchangeable m.together m.keep within
      (attained_bits (block_in c.search.still k) (block_in_limits c.search.still k within) (attains next))
      (attained_error (block_in c.search.still k) (block_in_limits c.search.still k within) (attains next)))

  module _ (c' : Course) (routes : c'.routes ≡ slice_set c.routes k r) (ways : c'.ways ≡ slice_set c.ways k w)
      (in_routes : k < length c.routes) (in_ways : k < length c.ways) where
    here : at c' k ≡ record { route = r; way = w }
    here = at_written c c' k r w routes ways in_routes in_ways

    other : (i : ℕ) → (i ≡ k → ⊥) → at c' i ≡ at c i
    other = at_other c c' k r w routes ways

    moved : Moved c k c'
    moved = record {
      other = other;
      next = ap corner here ∙ ap pair_in x.present ∙ rw root m.on_way.top;
      keep = subst (λ (s : Station). Smallest (block_in c.search.still k) (corner s) s.route.present.keep) (sym here) next;
      heads = subst (Heads (block_in c.search.still k) c.low (pair_at (at c k).route.known 0)) (sym here) x.heads;
    }

    pub gone : Same c c' → IsPlayed c' → Exchanged c.point (present_at c k) (present_at c' k) c'.point → Gone c c'
    gone s p e = record {
      same = s;
      moved = subst (λ (i : ℕ). Moved c i c') root moved;
      played = p;
      together = exchanged c c' k m.together within s.still (λ i u. ap (λ (s : Station). s.route.present) (other i u)) e;
    }
