-- Nothing attainable lies below the line through a corner and the next.
-- Assumes nothing.
use mathlib.Core.Path.{◌≡◌, refl, ap}
use Prim.Native.Nat.{ℕ, zero, suc, ◌+◌, ◌*◌, ◌≤◌, ◌<◌}
use native.Mathlib.Omega.{arith}
use native.Mathlib.Decide.{dec_le}
use Rattle.corners.specs.Pair.{Pair, cost}
use Rattle.corners.specs.Price.{Least, Wins}
use Rattle.corners.specs.Corner.{Corner}
use Rattle.corners.proofs.Slopes.{between}
use Rattle.corners.proofs.Corners.{apart}
use Rattle.corners.proofs.Winner.{wins_corner}

-- A number that some pair has is not without a least.
least_one : (S : Pair → Type 0) (f : Pair → ℕ) (n : ℕ) (X : Pair) → S X → f X ≤ n → ¬ ((W : Pair) → S W → ((Y : Pair) → S Y → f W ≤ f Y) → ⊥)
least_one S f zero X x h k = k X x (λ Y y. omega arith)
least_one S f (suc n) X x h k = k X x (λ Y y. go Y y (least_one S f n Y y) (dec_le (f X) (f Y)))
  where
    go : (Y : Pair) → S Y → (f Y ≤ n → ¬ ((W : Pair) → S W → ((Z : Pair) → S Z → f W ≤ f Z) → ⊥)) → Dec (f X ≤ f Y) → f X ≤ f Y
    go Y y r (yes p) = p
    go Y y r (no p) = absurd (r (omega arith) k)

-- At every price some pair wins.
some_wins : (Att : Pair → Type 0) (a b : ℕ) (X : Pair) → Att X → ¬ ((W : Pair) → Wins Att a b W → ⊥)
some_wins Att a b X x k =
    least_one Att (cost a b) (cost a b X) X x (omega arith) λ U u l.
    least_one (λ Y. Att Y × (cost a b Y ≡ cost a b U)) (λ Y. Y.bits) U.bits U (u, refl) (omega arith) λ W w m.
    k W (record { attained = w.0; least = λ Y y. omega (arith, w.1, l Y y); fewest = λ Y y e. m Y (y, omega (arith, w.1, e)) })

-- Two pairs cost the same at the price of their line, `a` the run and `b` the fall between them.
pub level : (a b : ℕ) (C N : Pair) → N.bits ≡ C.bits + a → C.error ≡ N.error + b → cost a b N ≡ cost a b C
level a b C N run fall = omega (arith, ap (λ (k : ℕ). b * k) run, ap (λ (k : ℕ). a * k) fall)

pub unequal : (a b : ℕ) (P Q : Pair) → cost a b P < cost a b Q → ¬ (P ≡ Q)
unequal a b P Q h e = omega (arith, ap (cost a b) e)

-- `N` is the next corner after `C`: no corner has a number of bits between theirs.
module _ {Att : Pair → Type 0} {C N : Pair} (c : Corner Att C) (n : Corner Att N) (more : C.bits < N.bits)
    (next : (P : Pair) → Corner Att P → C.bits < P.bits → N.bits ≤ P.bits)
    (a b : ℕ) (run : N.bits ≡ C.bits + a) (fall : C.error ≡ N.error + b) where
  none_below : (W : Pair) → Wins Att a b W → cost a b W < cost a b C → ⊥
  none_below W w h = go (dec_le W.bits C.bits)
    where
      go : Dec (W.bits ≤ C.bits) → ⊥
      go (yes l) =
          between a b c.a c.b W.error C.error N.error W.bits C.bits N.bits
          (omega arith) l (omega arith) (omega arith) (omega arith) (omega (arith, level a b C N run fall))
          (c.cheaper W w.attained (unequal a b W C h)) (c.cheaper N n.attained (apart N C (omega arith)))
      go (no l) =
          let k = next W (wins_corner (omega arith) w) (omega arith) in
          between a b n.a n.b C.error N.error W.error C.bits N.bits W.bits
          (omega arith) (omega arith) k (omega arith) (omega (arith, level a b C N run fall)) (omega (arith, level a b C N run fall))
          (n.cheaper C c.attained (apart C N (omega arith)))
          (n.cheaper W w.attained (unequal a b W N (omega (arith, level a b C N run fall))))

  pub line : Least Att a b C
  line X x = go (dec_le (cost a b C) (cost a b X))
    where
      go : Dec (cost a b C ≤ cost a b X) → cost a b C ≤ cost a b X
      go (yes h) = h
      go (no h) = absurd (some_wins Att a b X x (λ W w. none_below W w (omega (arith, w.least X x))))
