-- One block at its station: its course, and how it stays or goes on.
-- Assumes nothing.
use Rattle.std.proofs.Common.{◌≡◌, ap, sym, ℕ, ◌*◌, ◌<◌, arith}
use Rattle.block.specs.Block.{Block}
use Rattle.corners.specs.Pair.{Pair}
use Rattle.corners.specs.Price.{Wins}
use Rattle.corners.specs.Merging.{ahead, Way, Course, Course.reached, Course.short}
use Rattle.corners.proofs.Moves.{goes_on, stays_on}
use Rattle.attained.specs.Attained.{Attained, Smallest}
use Rattle.attained.specs.Chosen.{pair_at}
use Rattle.merge.specs.Station.{Station, corner, OnWay, Heads, Heads.arrived, Heads.going, Stationed}

-- The corner of a choice is attained.
pub attains : {B : Block} {P : Pair} {keep : ℕ} → Smallest B P keep → Attained B P
attains s = record { choice = s.choice; codable = s.codable; is = s.is }

module _ {B : Block} {low : ℕ} {H : Pair} {s : Station} where
  pub course : Heads B low H s → Course (Attained B) low H (corner s) s.way.run s.way.fall
  course (arrived e p q z) = rw (e, p, q) reached
  course (going w g) =
      let l : (corner s).bits < H.bits = omega (arith, w.known.beyond 0 w.known.some, ap (λ (P : Pair). P.bits) g) in
      short l w.way

  -- A block whose way is parallel to a steeper one than (1, low) is on its way.
  pub on_way : (r f : ℕ) → Heads B low H s → r * low < f → s.way.fall * r ≡ f * s.way.run → OnWay B s × (pair_at s.route.known 0 ≡ H)
  on_way r f (arrived e p q z) l h = let k : low * r ≡ f * 1 = rw (p, q) at h in absurd (omega arith)
  on_way r f (going w g) l h = (w, g)

module _ {B : Block} {low : ℕ} {H : Pair} {a b : ℕ} {s : Station} (t : Stationed B low H a b s) where
  -- It stays where the still goes on by a steeper way.
  pub stays : {r f : ℕ} → a * f < b * r → s.way.fall * r < f * s.way.run → Stationed B low H r f s
  stays steep h = record { stands = stays_on t.stands steep h; keep = t.keep; heads = t.heads }

  -- It goes a way parallel to (r, f) to its next corner.
  pub goes : {r f : ℕ} {s' : Station} → Wins (Attained B) 1 low H → Way (Attained B) (corner s) s.way.run s.way.fall
      → s.way.fall * r ≡ f * s.way.run → r * low < f → corner s' ≡ ahead (corner s) s.way.run s.way.fall
      → Smallest B (corner s') s'.route.present.keep → Heads B low H s' → Stationed B low H r f s'
  goes {r} {f} {s'} h w p l e k d = record {
    stands = rw e (goes_on h t.stands w p l (rw (sym e) (course d)));
    keep = k;
    heads = d;
  }
