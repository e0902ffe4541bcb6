-- The blocks set out from their best choices at the price (1, high) for those at (1, low).
-- Assumes nothing.
use Rattle.std.proofs.Common.{◌≡◌, ap, sym, subst, ◌∙◌, ℕ, ◌+◌, ◌*◌, ◌<◌, List, length, slice_set, length-set, take, below_more, arith}
use Rattle.std.proofs.lemmas.List.{get_or-take}
use Rattle.block.specs.Block.{Block}
use Rattle.corners.specs.Pair.{Pair}
use Rattle.corners.specs.Price.{Wins}
use Rattle.corners.specs.Corner.{Corner}
use Rattle.corners.proofs.Corners.{same_corner}
use Rattle.corners.proofs.Winner.{wins_corner}
use Rattle.corners.proofs.Halving.{dearer_shorter}
use Rattle.corners.proofs.Moves.{sets_out}
use Rattle.attained.specs.Attained.{Attained}
use Rattle.attained.specs.Chosen.{none, chosen_at, pair_in, pair_at}
use Rattle.attained.proofs.Winning.{gives_wins, gives_smallest, attained_bits}
use Rattle.forward.specs.declared.Chosen.{Chosen}
use Rattle.still.specs.declared.Still.{Still}
use Rattle.still.specs.Blocks.{count_of, block_in}
use Rattle.still.proofs.Blocks.{block_in_limits}
use Rattle.winners.specs.Winners.{Winners, Sums}
use Rattle.steepest.specs.declared.way.Way.{Way}
use Rattle.ways.specs.declared.Route.{Route}
use Rattle.ways.specs.Known.{corner_of, Known}
use Rattle.ways.proofs.Knowing.{known_one}
use Rattle.merge.specs.declared.Course.{Course}
use Rattle.merge.specs.Station.{Station, Heads, Stationed}
use Rattle.merge.specs.Standing.{at, present_at, corner_at, IsPlayed, Together}
use Rattle.merge.specs.Going.{Aimed, Found}
use Rattle.merge.specs.SettingOut.{Ends, Headed, SetOut}
use Rattle.merge.proofs.Station.{course}
use Rattle.merge.proofs.Going.{heads_on, present_kept}
use Rattle.merge.proofs.Totals.{together_sums}
use Rattle.merge.proofs.Moving.{at_written, at_other}

-- the winners in the first n places of a longer slice
pub winners_taken : {B : ℕ → Block} {n a b : ℕ} (each : List Chosen) → Winners B n a b each → Winners B n a b (take n each)
winners_taken {n = n} each w = record { gives = λ i l. rw (get_or-take n each i none l) (w.gives i l) }

module _ {still : Still} {low : ℕ} {from goals : List Chosen} (E : Ends still low from goals) where
  start : (i : ℕ) → i < count_of still → Wins (Attained (block_in still i)) 1 E.high (pair_at from i)
  start i l = gives_wins (block_in still i) (E.winners.gives i l)

  goal : (i : ℕ) → i < count_of still → Wins (Attained (block_in still i)) 1 low (pair_at goals i)
  goal i l = gives_wins (block_in still i) (E.goals_win.gives i l)

  module _ {i : ℕ} {r : Route} (l : i < count_of still) (a : Aimed (chosen_at from i) (chosen_at goals i) r) where
    goal_known : pair_at r.known 0 ≡ pair_at goals i
    goal_known = ap pair_in a.goal_is

    here : corner_of r ≡ pair_at from i
    here = ap pair_in a.present

    pub aimed_corner : Corner (Attained (block_in still i)) (corner_of r)
    aimed_corner = rw here (wins_corner (omega arith) (start i l))

    pub aimed_known : (r.height ≡ 0 → ⊥) → Known (block_in still i) (corner_of r) r.height r.known
    aimed_known u = rw (a.ahead u).0 (known_one
        (rw goal_known (wins_corner (omega arith) (goal i l)))
        (rw a.goal_is (gives_smallest (block_in still i) (E.goals_win.gives i l)))
        (omega (arith, dearer_shorter E.above (start i l) (goal i l), (a.ahead u).1, ap (λ (P : Pair). P.bits) goal_known, ap (λ (P : Pair). P.bits) here)))

    heads_off : {w : Way} {r' : Route} → Found (block_in still i) low r w r' → Heads (block_in still i) low (pair_at goals i) (record { route = r'; way = w })
    heads_off f = rw goal_known at (heads_on
        (λ z. here ∙ same_corner (wins_corner (omega arith) (start i l)) (wins_corner (omega arith) (goal i l)) (a.there z) ∙ sym goal_known) f)

    -- One block more heads for its goal.
    pub headed_more : {c c' : Course} {w : Way} {r' : Route} → Headed still low from goals c i → c'.search.still ≡ c.search.still → c'.low ≡ c.low
        → c'.routes ≡ slice_set c.routes i r' → c'.ways ≡ slice_set c.ways i w → Found (block_in still i) low r w r' → Headed still low from goals c' (i + 1)
    headed_more {c} {c'} {w} {r'} H s e routes ways f = record {
      still_is = s ∙ H.still_is;
      low_is = e ∙ H.low_is;
      routes_long = ap length routes ∙ length-set c.routes i r' ∙ H.routes_long;
      ways_long = ap length ways ∙ length-set c.ways i w ∙ H.ways_long;
      present = below_more (λ (j : ℕ). present_at c' j ≡ chosen_at from j) i
          (λ j m. ap (λ (s : Station). s.route.present) (other j m) ∙ H.present j m)
          (ap (λ (s : Station). s.route.present) now ∙ present_kept f ∙ a.present);
      heads = below_more (λ (j : ℕ). Heads (block_in still j) low (pair_at goals j) (at c' j)) i
          (λ j m. subst (Heads (block_in still j) low (pair_at goals j)) (sym (other j m)) (H.heads j m))
          (subst (Heads (block_in still i) low (pair_at goals i)) (sym now) (heads_off f));
    }
      where
        now : at c' i ≡ record { route = r'; way = w }
        now = let few = still.sound.still.most in
            at_written c c' i r' w routes ways (omega (arith, H.routes_long)) (omega (arith, H.ways_long))

        other : (j : ℕ) → j < i → at c' j ≡ at c j
        other j m = at_other c c' i r' w routes ways j (λ q. omega arith)

  module _ {c : Course} (H : Headed still low from goals c (count_of still)) where
    stationed : (i : ℕ) → i < count_of still → Stationed (block_in still i) low (pair_at goals i) 1639 (E.high * 1639 + 1) (at c i)
    stationed i l = record {
      stands = rw here (sets_out (goal i l) E.high 1639 (start i l) (omega (arith, E.above))
          (omega (arith, attained_bits (block_in still i) (block_in_limits still i l) (start i l).attained)) (rw here at (course (H.heads i l))));
      keep = rw (H.present i l) (gives_smallest (block_in still i) (E.winners.gives i l));
      heads = H.heads i l;
    }
      where
        here : corner_at c i ≡ pair_at from i
        here = ap pair_in (H.present i l)

    together : Sums from (count_of still) c.point → Together c
    together s = together_sums (ap count_of H.still_is) H.present s.bits s.error s.kept

    pub set_out : Sums from (count_of still) c.point → IsPlayed c → SetOut still low from c
    set_out s p = record {
      a = 1639;
      b = E.high * 1639 + 1;
      standing = record {
        goal = pair_at goals;
        wins = simp (H.still_is, H.low_is) goal;
        each = simp (H.still_is, H.low_is) stationed;
        above = rw H.low_is (omega (arith, E.above));
        played = p;
        together = together s;
      };
      present = H.present;
      still_is = H.still_is;
      low_is = H.low_is;
    }
