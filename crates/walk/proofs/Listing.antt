-- The walk past all corners: it starts at the first, lists one more a turn, and ends at the last.
-- Assumes nothing.
use Rattle.std.proofs.Common.{◌≡◌, ◌∙◌, refl, sym, subst, List, [], ◌∷◌, ◌++◌, length, ℕ, ◌+◌, arith}
use lib.ListN.{length-append}
use Rattle.corners.specs.Pair.{Pair}
use Rattle.corners.specs.Still.{total}
use Rattle.corners.proofs.Merge.{merge_start, merge_step, merge_finish}
use Rattle.attained.specs.Attained.{Attained}
use Rattle.still.specs.declared.Still.{Still}
use Rattle.still.specs.Blocks.{count_of, block_in}
use Rattle.merge.specs.declared.Course.{Course}
use Rattle.merge.specs.Standing.{corner_at, steepest_of}
use Rattle.merge.specs.Passing.{Leaving, Advanced}
use Rattle.merge.proofs.Played.{flat}
use Rattle.walk.specs.Written.{Written, Walked}
use Rattle.walk.specs.Walking.{pair_of, First, Listed, Lists, Entered, Entered.past, Entered.entered}
use Rattle.walk.proofs.Writing.{written_none, written_past, written_more}
use Rattle.walk.proofs.Going.{runs, falls, stand, pair_is, standing_kept, gone, steep, more, more_bits}

pub lists_start : {c : Course} {out : List ℕ} → First c → Lists c out out 0
lists_start {c} F = record {
  a = F.a;
  b = F.b;
  standing = F.standing;
  low_is = F.low_is;
  listed = record {
    list = [];
    so_far = merge_start (λ i. Attained (block_in c.search.still i)) (count_of c.search.still) (corner_at c) (runs c) (falls c) (stand F.standing) F.least;
    size = refl;
    written = written_none;
  };
  few = omega arith;
}

module _ {c : Course} {before after : List ℕ} {count : ℕ} (W : Lists c before after count) where
  abbrev still : Still
  still = c.search.still

  abbrev T : Pair
  T = total (corner_at c) (count_of still)

  abbrev list : List Pair
  list = W.listed.list

  pub lists_leaving : ((steepest_of c).fall ≡ 0 → ⊥) → Leaving c
  lists_leaving u = record { a = W.a; b = W.b; standing = W.standing; above = rw W.low_is (omega arith) }

  -- The present corner is written, if there is room for it.
  with_corner : {out : List ℕ} → Entered count c.point after out → Written (block_in still) (count_of still) (list ++ (pair_of c.point ∷ [])) before out
  with_corner (past h e) = rw e (written_past W.listed.written (pair_of c.point) (omega (arith, W.listed.size)))
  with_corner (entered h e) = rw e (written_more W.listed.written W.listed.size c.point h (standing_kept W.standing))

  module _ {out : List ℕ} (E : Entered count c.point after out) where
    written : Written (block_in still) (count_of still) (list ++ (T ∷ [])) before out
    written = subst (λ (P : Pair). Written (block_in still) (count_of still) (list ++ (P ∷ [])) before out) (pair_is W.standing) (with_corner E)

    one_longer : length (list ++ (T ∷ [])) ≡ count + 1
    one_longer = omega (arith, length-append list (T ∷ []), W.listed.size)

    -- The still goes on: one corner more is listed.
    pub lists_more : {c' : Course} → ((steepest_of c).fall ≡ 0 → ⊥) → Advanced c c' → Lists c' before out (count + 1)
    unfolding lists_leaving
    lists_more {c'} u A =
        let L = lists_leaving u in
        record {
          a = (steepest_of c).run;
          b = (steepest_of c).fall;
          standing = A.standing;
          low_is = A.same.low ∙ W.low_is;
          listed = subst (λ (s : Still). Listed s (steepest_of c).run (steepest_of c).fall (total (corner_at c') (count_of s)) (count + 1) before out)
              (sym A.same.still)
              (record {
                list = list ++ (T ∷ []);
                so_far = merge_step (λ i. Attained (block_in still i)) (count_of still) (corner_at c) (runs c) (falls c) (stand W.standing) (corner_at c')
                    (gone L A) (steep L A) W.listed.so_far
                    (record {
                      a_low = (steepest_of c).some_run;
                      a_high = omega (arith, (steepest_of c).run_high);
                      b_high = omega (arith, (steepest_of c).fall_high);
                    })
                    (more L A);
                size = one_longer;
                written = written;
              });
          few = omega (arith, W.few, more_bits L A);
        }

    -- No fall is left: all are listed.
    pub lists_end : (steepest_of c).fall ≡ 0 → Walked (block_in still) (count_of still) before (count + 1) out
    lists_end z = record {
      list = list ++ (T ∷ []);
      corners = merge_finish (λ i. Attained (block_in still i)) (count_of still) (corner_at c) (runs c) (falls c) (stand W.standing)
          (steepest_of c).run (steepest_of c).fall (steepest_of c).some_run (flat W.standing.played) z (omega (arith, W.standing.above)) W.listed.so_far;
      size = one_longer;
      written = written;
    }
