-- One block in the merge: it stands at a corner between two prices, and stays there or goes its way.
-- Assumes nothing.
use mathlib.Core.Path.{◌≡◌, refl, ap}
use Prim.Native.Nat.{ℕ, ◌+◌, ◌*◌, ◌-◌, ◌≤◌, ◌<◌}
use native.Mathlib.Omega.{arith}
use native.Mathlib.Nat.{mul-le-mul, mul-le-mul_right}
use Rattle.corners.specs.Pair.{Pair, cost}
use Rattle.corners.specs.Price.{Least, Wins}
use Rattle.corners.specs.Corner.{Corner}
use Rattle.corners.specs.Merging.{ahead, Way, Course, Course.reached, Course.short, Stands, Goes, Goes.stays, Goes.moves}
use Rattle.corners.proofs.Slopes.{cone, parallel, turn, right_pos}
use Rattle.corners.proofs.Corners.{apart, same_corner}
use Rattle.corners.proofs.Winner.{wins_corner, wins_strictly, wins_dearer}
use Rattle.corners.proofs.Line.{level, line}

module _ {A : Pair → Type 0} {C : Pair} {c d : ℕ} (k : Corner A C) (w : Way A C c d) where
  -- Both ends of a way are cheapest at its price.
  way_near : Least A c d C
  way_near = line k w.corner (omega (arith, w.run)) w.next c d refl (omega (arith, w.enough))

  way_far : Least A c d (ahead C c d)
  way_far X x = omega (arith, level c d C (ahead C c d) refl (omega (arith, w.enough)), way_near X x)

  -- Where `C` is strictly cheapest, its way on is flatter.
  way_flatter : (a b : ℕ) → cost a b C < cost a b (ahead C c d) → a * d < b * c
  way_flatter a b h = let e : C.error ≡ C.error - d + d = omega (arith, w.enough) in omega (arith, h, ap (λ (i : ℕ). a * i) e)

module _ {A : Pair → Type 0} {low : ℕ} {H : Pair} (h : Wins A 1 low H) where
  -- A block is cheapest at the price of its course.
  course_least : {C : Pair} {c d : ℕ} → Corner A C → Course A low H C c d → Least A c d C
  course_least k reached = h.least
  course_least k (short l w) = way_near k w

  -- A block sets out from its corner at the price (1, high).
  pub sets_out : {C : Pair} {c d : ℕ} (high M : ℕ) → Wins A 1 high C → low ≤ high → C.bits < M → Course A low H C c d
      → Stands A M (high * M + 1) C c d
  sets_out {C} {c} {d} high M v l s r = record {
    corner = wins_corner (omega arith) v;
    inward = λ X x. omega (arith, wins_dearer (omega arith) v M s X x);
    outward = course_least (wins_corner (omega arith) v) r;
    flatter = flatter r v s;
  }
    where
      flatter : {C : Pair} {c d : ℕ} → Course A low H C c d → Wins A 1 high C → C.bits < M → M * d < (high * M + 1) * c
      flatter reached v s = omega (arith, mul-le-mul_right M l)
      flatter {C} {c} {d} (short m w) v s =
          way_flatter (wins_corner (omega arith) v) w M (high * M + 1)
          (omega (arith, wins_strictly (omega arith) v M s (ahead C c d) w.corner.attained (apart (ahead C c d) C (omega (arith, w.run)))))

  -- A block that goes a way parallel to (a', b') stands at its next corner, and its course from there is flatter.
  pub goes_on : {C : Pair} {a b c d a' b' r s : ℕ} → Stands A a b C c d → Way A C c d → d * a' ≡ b' * c → a' * low < b'
      → Course A low H (ahead C c d) r s → Stands A a' b' (ahead C c d) r s
  goes_on {C} {a} {b} {c} {d} {a'} {b'} t w p l k = record {
    corner = n;
    inward = λ X x. parallel c d a' b' _ _ _ _ w.run p (way_far t.corner w X x);
    outward = course_least n k;
    flatter = flatter n u k;
  }
    where
      n : Corner A (ahead C c d)
      n = w.corner

      u : n.b * c < n.a * d
      u =
          let e : C.error ≡ C.error - d + d = omega (arith, w.enough) in
          omega (arith, n.cheaper C t.corner.attained (apart C (ahead C c d) (omega (arith, w.run))), ap (λ (i : ℕ). n.a * i) e)

      flatter : {N : Pair} {r s : ℕ} (n : Corner A N) → n.b * c < n.a * d → Course A low H N r s → a' * s < b' * r
      flatter n u reached = omega arith
      flatter {N} {r} {s} n u (short m v) =
          turn a' b' n.a n.b c d r s (right_pos 0 d a' (omega (arith, mul-le-mul l w.run))) (omega arith) u
          (way_flatter n v n.a n.b (n.cheaper (ahead N r s) v.corner.attained (apart (ahead N r s) N (omega (arith, v.run)))))

-- A block whose own price is parallel to a steeper one than (1, low) is short of its goal.
pub course_way : {A : Pair → Type 0} {low : ℕ} {H C : Pair} {c d : ℕ} (a b : ℕ) → Course A low H C c d → a * low < b → d * a ≡ b * c
    → Way A C c d × (C.bits < H.bits)
course_way a b reached l p = absurd (omega arith)
course_way a b (short m w) l p = (w, m)

-- With the bits of its goal a block has reached it.
pub arrives : {A : Pair → Type 0} {H C : Pair} (low : ℕ) → Corner A C → Corner A H → C.bits ≡ H.bits → Course A low H C 1 low
arrives {A} {H} {C} low c h e = rw (same_corner c h e) reached

-- No block is beyond its goal.
pub course_within : {A : Pair → Type 0} {low : ℕ} {H C : Pair} {c d : ℕ} → Course A low H C c d → C.bits ≤ H.bits
course_within reached = omega arith
course_within (short m w) = omega arith

module _ {A : Pair → Type 0} {C : Pair} {a b c d : ℕ} (t : Stands A a b C c d) where
  pub stands_run : 1 ≤ c
  stands_run = right_pos _ b c t.flatter

  -- Between its two prices a block is cheapest where it stands.
  pub near : (a' b' : ℕ) → a * b' < b * a' → d * a' ≤ b' * c → Least A a' b' C
  near a' b' steep h X x = cone a b c d a' b' _ _ _ _ stands_run steep h (t.inward X x) (t.outward X x)

  -- A block with a flatter price on stays.
  pub stays_on : {a' b' : ℕ} → a * b' < b * a' → d * a' < b' * c → Stands A a' b' C c d
  stays_on {a'} {b'} steep h = record { corner = t.corner; inward = near a' b' steep (omega arith); outward = t.outward; flatter = omega arith }

  -- Where a block may go it is as cheap, and has as many bits or more.
  pub goes_flat : {a' b' : ℕ} {C' : Pair} → Goes A a' b' C c d C' → d * a' ≤ b' * c
  goes_flat (stays h) = h
  goes_flat (moves w p) = omega arith

  pub goes_far : {a' b' : ℕ} {C' : Pair} → a * b' < b * a' → Goes A a' b' C c d C' → Least A a' b' C'
  goes_far {a'} {b'} steep (stays h) = near a' b' steep h
  goes_far {a'} {b'} steep (moves w p) = λ X x. parallel c d a' b' _ _ _ _ w.run p (way_far t.corner w X x)

  pub goes_there : {a' b' : ℕ} {C' : Pair} → Goes A a' b' C c d C' → A C'
  goes_there (stays h) = t.corner.attained
  goes_there (moves w p) = w.corner.attained

  pub goes_grows : {a' b' : ℕ} {C' : Pair} → Goes A a' b' C c d C' → C.bits ≤ C'.bits
  goes_grows (stays h) = omega arith
  goes_grows (moves w p) = omega arith
