-- How a block's next corner is found: search at the price of the line from the present corner to one further on.
-- Assumes nothing.
use mathlib.Core.Path.{◌≡◌, ap, subst}
use Prim.Native.Nat.{ℕ, ◌+◌, ◌-◌, ◌≤◌, ◌<◌}
use native.Mathlib.Omega.{arith}
use native.Mathlib.Decide.{dec_le}
use Rattle.corners.specs.Pair.{Pair, cost}
use Rattle.corners.specs.Price.{Least, Wins}
use Rattle.corners.specs.Corner.{Corner}
use Rattle.corners.specs.Merging.{ahead, Way}
use Rattle.corners.proofs.Slopes.{between}
use Rattle.corners.proofs.Corners.{pair_path, apart, corner_falls, same_corner}
use Rattle.corners.proofs.Winner.{wins_corner}
use Rattle.corners.proofs.Edge.{none_between}
use Rattle.corners.proofs.Line.{level, unequal}

module _ {A : Pair → Type 0} {C P : Pair} (c : Corner A C) (p : Corner A P) (more : C.bits < P.bits) where
  module _ (a b : ℕ) (run : P.bits ≡ C.bits + a) (fall : C.error ≡ P.error + b) where
    -- `C` is cheapest there: `P` is the next corner.
    next_done : Least A a b C → (Q : Pair) → Corner A Q → C.bits < Q.bits → P.bits ≤ Q.bits
    next_done h Q q l = go (dec_le P.bits Q.bits)
      where
        go : Dec (P.bits ≤ Q.bits) → P.bits ≤ Q.bits
        go (yes m) = m
        go (no m) =
            let e = none_between A C c.attained a b P (omega arith) h p.attained (λ X x. omega (arith, level a b C P run fall, h X x))
            Q q (omega arith) (omega arith) in
            omega (arith, ap (λ (R : Pair). R.bits) e)

    -- Another wins: it is nearer.
    next_nearer : (W : Pair) → Wins A a b W → ¬ (W ≡ C) → (C.bits < W.bits) × (W.bits < P.bits)
    next_nearer W w n = (beyond, short (dec_le P.bits W.bits))
      where
        beyond : C.bits < W.bits
        beyond = go (dec_le W.bits C.bits)
          where
            go : Dec (W.bits ≤ C.bits) → C.bits < W.bits
            go (no l) = omega arith
            go (yes l) = absurd (
                between a b c.a c.b W.error C.error P.error W.bits C.bits P.bits
                (omega arith) l (omega arith) (omega arith) (w.least C c.attained) (omega (arith, level a b C P run fall))
                (c.cheaper W w.attained n) (c.cheaper P p.attained (apart P C (omega arith))))

        below : Dec (cost a b C ≤ cost a b W) → cost a b W < cost a b P
        below (no l) = omega (arith, level a b C P run fall)
        below (yes l) = absurd (omega (arith, beyond, w.fewest C c.attained (omega (arith, w.least C c.attained))))

        short : Dec (P.bits ≤ W.bits) → W.bits < P.bits
        short (no l) = omega arith
        short (yes l) = absurd (
            between a b p.a p.b C.error P.error W.error C.bits P.bits W.bits
            (omega arith) (omega arith) l (omega arith) (omega (arith, level a b C P run fall)) (w.least P p.attained)
            (p.cheaper C c.attained (apart C P (omega arith))) (p.cheaper W w.attained (unequal a b W P (below (dec_le _ _)))))

  -- The search at that price gives other bits: a nearer corner.
  pub nearer : {W : Pair} → Wins A (P.bits - C.bits) (C.error - P.error) W → ¬ (W.bits ≡ C.bits) → (C.bits < W.bits) × (W.bits < P.bits)
  nearer {W} w n =
      next_nearer (P.bits - C.bits) (C.error - P.error) (omega arith) (omega (arith, corner_falls p C c.attained more)) W w (apart W C n)

  -- It gives the bits of `C`: the block's way on leads to `P`.
  pub way_on : {W : Pair} → Wins A (P.bits - C.bits) (C.error - P.error) W → W.bits ≡ C.bits
      → Way A C (P.bits - C.bits) (C.error - P.error)
  way_on {W} w e = record {
    run = omega arith;
    fall = omega (arith, falls);
    enough = omega arith;
    corner = subst (Corner A) (pair_path P (ahead C (P.bits - C.bits) (C.error - P.error)) (omega arith) (omega (arith, falls))) p;
    next = λ Q q m. omega (arith, next_done (P.bits - C.bits) (C.error - P.error) (omega arith) (omega (arith, falls)) here Q q m);
  }
    where
      falls : P.error < C.error
      falls = corner_falls p C c.attained more

      here : Least A (P.bits - C.bits) (C.error - P.error) C
      here = subst (Least A (P.bits - C.bits) (C.error - P.error)) (same_corner (wins_corner (omega arith) w) c e) w.least
