-- The still goes on by its steepest way: block after block whose way is parallel to it goes, in any order, and the others stay.
-- Assumes nothing.
use Rattle.std.proofs.Common.{◌≡◌, ap, sym, subst, ◌∙◌, ℕ, ◌*◌, ◌≤◌, ◌<◌, arith}
use native.Mathlib.Decide.{ℕ_discrete}
use native.Mathlib.Nat.{mul-le-mul_right, lt_of_mul-lt-mul_left}
use borrow.Author.Tests.{eq-eqb, ne_eqb}
use Rattle.block.specs.Block.{Block}
use Rattle.block.specs.Limits.{most_bits}
use Rattle.corners.specs.Pair.{Pair}
use Rattle.corners.specs.Price.{Wins}
use Rattle.corners.specs.Merging.{ahead, onward}
use Rattle.attained.specs.Attained.{Attained, Smallest}
use Rattle.attained.specs.Chosen.{pair_at}
use Rattle.still.specs.Blocks.{count_of, block_in}
use Rattle.steepest.specs.declared.way.Way.{Way}
use Rattle.merge.specs.declared.Course.{Course}
use Rattle.merge.specs.Station.{Station, corner, OnWay, Heads, Stationed}
use Rattle.merge.specs.Standing.{at, present_at, corner_at, top_of, steepest_of}
use Rattle.merge.specs.Passing.{MayGo, Gone, Passed, Passed.waits, Passed.gone, Passing, Advanced}
use Rattle.merge.proofs.Station.{on_way, stays, goes}
use Rattle.merge.proofs.Played.{top_within, flat}
use Rattle.merge.proofs.Totals.{together_bits, bits_changed}

-- What is no steeper than a way that is flatter than (r, f) is flatter than (r, f).
flatter_still : (c d x y r f : ℕ) → 1 ≤ c → d * x ≤ y * c → y * r < f * x → d * r < f * c
flatter_still c d x y r f l h k = lt_of_mul-lt-mul_left x (omega (arith, mul-le-mul_right r h, mul-le-mul_right c k))

-- Two ways are parallel where those are that equal them.
pub parallel_too : {x y a b : Way} → x ≡ a → y ≡ b → x.fall * y.run ≡ y.fall * x.run → a.fall * b.run ≡ b.fall * a.run
parallel_too p q h = rw (← p, ← q) h

-- Where a block is that goes, and one that stays.
module _ (r f : ℕ) (C : Pair) (c d : ℕ) where
  goes_there : d * r ≡ f * c → ahead C c d ≡ onward r f C c d
  goes_there h = rw (eq-eqb (d * r) (f * c) h)

  stays_there : ¬ (d * r ≡ f * c) → C ≡ onward r f C c d
  stays_there h = rw (ne_eqb (d * r) (f * c) h)

-- A block's station changes, while the still goes on, to that of its next corner.
passed_on : {B : Block} {low : ℕ} {H : Pair} {a b r f : ℕ} {s s' s'' : Station} → Stationed B low H a b s → Wins (Attained B) 1 low H → r * low < f
    → s' ≡ s → s'.way.fall * r ≡ f * s'.way.run → corner s'' ≡ ahead (corner s') s'.way.run s'.way.fall → Smallest B (corner s'') s''.route.present.keep
    → Heads B low (pair_at s'.route.known 0) s'' → Passed B low H r f s s''
passed_on {B} {low} {H} {a} {b} {r} {f} {s} {s'} {s''} t w l e p c k d =
    subst (λ (q : Station). Passed B low H r f q s'') e (gone p c (goes t' w o.0.way p l c k (subst (λ (Q : Pair). Heads B low Q s'') o.1 d)))
  where
    t' : Stationed B low H a b s'
    t' = subst (Stationed B low H a b) (sym e) t

    o : OnWay B s' × (pair_at s'.route.known 0 ≡ H)
    o = on_way r f t'.heads l p

module _ {c c' : Course} (P : Passing c c') where
  -- the still's way, by which it goes on
  abbrev r : ℕ
  r = (steepest_of c).run

  abbrev f : ℕ
  f = (steepest_of c).fall

  abbrev n : ℕ
  n = count_of c.search.still

  abbrev B : ℕ → Block
  B = block_in c.search.still

  abbrev Is_passed : ℕ → Type 0
  Is_passed i = Passed (B i) c.low (P.from.standing.goal i) r f (at c i) (at c' i)

  -- A block that has gone is flatter than (r, f), so one that is parallel has waited.
  waiting : (k : ℕ) → k < n → (at c' k).way.fall * r ≡ f * (at c' k).way.run → at c' k ≡ at c k
  waiting k l h = go (P.each k l)
    where
      go : Is_passed k → at c' k ≡ at c k
      go (waits e) = e
      go (gone q e t) = absurd (omega (arith, t.stands.flatter))

  pass_keep : (i : ℕ) → i < n → Smallest (B i) (corner_at c' i) (present_at c' i).keep
  pass_keep i l = go (P.each i l)
    where
      go : Is_passed i → Smallest (B i) (corner_at c' i) (present_at c' i).keep
      go (waits e) = subst (λ (s : Station). Smallest (B i) (corner s) s.route.present.keep) (sym e) (P.from.standing.each i l).keep
      go (gone q e t) = t.keep

  pub pass_most : c'.point.bits.0 ≤ most_bits * n
  pass_most = simp P.same.still at (together_bits P.together (simp P.same.still pass_keep))

  root_within : top_of c' < n
  root_within = simp P.same.still at (top_within P.played)

  -- The steepest block left is parallel to (r, f), and so on its way: it goes.
  module _ (h : (steepest_of c').fall * r ≡ f * (steepest_of c').run) where
    root_waits : at c' (top_of c') ≡ at c (top_of c')
    root_waits = waiting (top_of c') root_within h

    root_on : OnWay (B (top_of c')) (at c' (top_of c'))
    root_on = (on_way r f (subst (Heads (B (top_of c')) c.low (P.from.standing.goal (top_of c'))) (sym root_waits) (P.from.standing.each (top_of c') root_within).heads) P.from.above h).0

    pub may_go : MayGo c'
    may_go = record { played = P.played; on_way = simp P.same.still root_on; keep = simp P.same.still pass_keep; together = P.together }

    module _ {c'' : Course} (G : Gone c' c'') where
      pub pass_more : c'.point.bits.0 < c''.point.bits.0
      pass_more =
          let other = λ (i : ℕ) (u : i ≡ top_of c' → ⊥). ap (λ (s : Station). s.route.present) (G.moved.other i u) in
          omega (
            arith,
            bits_changed c' c'' (top_of c') P.together (top_within P.played) G.same.still other G.together,
            ap (λ (Q : Pair). Q.bits) G.moved.next,
            (steepest_of c').some_run,
          )

      pub pass_on : Passing c c''
      pass_on = record {
        from = P.from;
        each = λ i m. each i m (ℕ_discrete i (top_of c'));
        same = record { still = G.same.still ∙ P.same.still; low = G.same.low ∙ P.same.low };
        played = G.played;
        together = G.together;
      }
        where
          each : (i : ℕ) → i < n → Dec (i ≡ top_of c') → Passed (B i) c.low (P.from.standing.goal i) r f (at c i) (at c'' i)
          each i m (no u) = subst (Passed (B i) c.low (P.from.standing.goal i) r f (at c i)) (sym (G.moved.other i u)) (P.each i m)
          each i m (yes e) =
              rw e (passed_on (P.from.standing.each (top_of c') root_within) (P.from.standing.wins (top_of c') root_within) P.from.above root_waits h G.moved.next
              (simp P.same.still at G.moved.keep) (simp (P.same.still, P.same.low) at G.moved.heads))

  -- The steepest way left is flatter than (r, f), so all are, and those that have waited stay.
  module _ (h : ¬ ((steepest_of c').fall * r ≡ f * (steepest_of c').run)) where
    root_flatter : (steepest_of c').fall * r < f * (steepest_of c').run
    root_flatter = go (P.each (top_of c') root_within)
      where
        go : Is_passed (top_of c') → (steepest_of c').fall * r < f * (steepest_of c').run
        go (waits e) =
            let l : (steepest_of c').fall * r ≤ f * (steepest_of c').run =
            subst (λ (s : Station). s.way.fall * r ≤ f * s.way.run) (sym e) (flat P.from.standing.played (top_of c') root_within) in
            omega arith
        go (gone q e u) = omega (arith, u.stands.flatter)

    flatter : (i : ℕ) → i < n → (at c' i).way.fall * r < f * (at c' i).way.run
    flatter i l = flatter_still _ _ _ _ r f (at c' i).way.some_run (flat P.played i (simp P.same.still l)) root_flatter

    pub pass_end : Advanced c c'
    pass_end = record {
      standing = record {
        goal = P.from.standing.goal;
        wins = simp (P.same.still, P.same.low) P.from.standing.wins;
        each = simp (P.same.still, P.same.low) (λ i l. each i l (P.each i l));
        above = rw P.same.low P.from.above;
        played = P.played;
        together = P.together;
      };
      onward = λ i l. there i l (P.each i l);
      same = P.same;
    }
      where
        steep : P.from.a * f < P.from.b * r
        steep = (P.from.standing.each (top_of c) (top_within P.from.standing.played)).stands.flatter

        each : (i : ℕ) → i < n → Is_passed i → Stationed (B i) c.low (P.from.standing.goal i) r f (at c' i)
        each i l (waits e) = stays (subst (Stationed (B i) c.low _ _ _) (sym e) (P.from.standing.each i l)) steep (flatter i l)
        each i l (gone q e u) = u

        there : (i : ℕ) → i < n → Is_passed i → corner_at c' i ≡ onward r f (corner_at c i) (at c i).way.run (at c i).way.fall
        there i l (waits e) =
            let k : (at c i).way.fall * r < f * (at c i).way.run = subst (λ (s : Station). s.way.fall * r < f * s.way.run) e (flatter i l) in
            ap corner e ∙ stays_there r f (corner_at c i) (at c i).way.run (at c i).way.fall (λ q. omega arith)
        there i l (gone q e u) = e ∙ goes_there r f (corner_at c i) (at c i).way.run (at c i).way.fall q
