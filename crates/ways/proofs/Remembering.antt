-- A corner between the present one and those known is known with them: what is known then is in order.
-- Assumes nothing.
use Rattle.std.proofs.Common.{◌≡◌, ap, ℕ, ◌-◌, ◌≤◌, ◌<◌, arith}
use native.Mathlib.Decide.{dec_le}
use Rattle.block.specs.Block.{Block}
use Rattle.corners.specs.Pair.{Pair}
use Rattle.corners.specs.Corner.{Corner}
use Rattle.attained.specs.Attained.{Attained, Smallest}
use Rattle.attained.specs.Chosen.{chosen_at, pair_in, pair_at}
use Rattle.forward.specs.declared.Chosen.{Chosen}
use Rattle.ways.specs.declared.Route.{Route}
use Rattle.ways.specs.Known.{Known}
use Rattle.ways.specs.Looking.{nearest, Remembered}

-- What holds of each number below the last and of the last.
below_last : (P : ℕ → Type 0) (n : ℕ) → ((j : ℕ) → j < n - 1 → P j) → P (n - 1) → (j : ℕ) → j < n → P j
below_last P n low last j h = go (dec_le (n - 1) j)
  where
    go : Dec (n - 1 ≤ j) → P j
    go (no l) = low j (omega arith)
    go (yes l) = let e : j ≡ n - 1 = omega arith in rw e last

module _ {B : Block} {C : Pair} {before after : Route} {w : Chosen} (k : Known B C before.height before.known) (m : Remembered before w after)
    (c : Corner (Attained B) (pair_in w)) (s : Smallest B (pair_in w) w.keep) (beyond : C.bits < (pair_in w).bits)
    (nearer : (pair_in w).bits < (nearest before).bits) where
  last_bits : (pair_at after.known (after.height - 1)).bits ≡ (pair_in w).bits
  last_bits = ap (λ (x : Chosen). x.bits.0) m.corner

  below : (j : ℕ) → j < after.height - 1 → (pair_in w).bits < (pair_at after.known j).bits
  below j h = rw (m.rest j h) (go (dec_le (before.height - 1) j))
    where
      go : Dec (before.height - 1 ≤ j) → (pair_in w).bits < (pair_at before.known j).bits
      go (yes l) = let e : j ≡ before.height - 1 = omega (arith, m.within) in rw e nearer
      go (no l) = omega (arith, nearer, k.falling j (before.height - 1) (omega arith) (omega (arith, k.some)))

  pub known_more : Known B C after.height after.known
  known_more = record {
    some = omega (arith, m.above);
    most = m.most;
    corner = below_last (λ (j : ℕ). Corner (Attained B) (pair_at after.known j)) after.height
        (λ j h. rw (m.rest j h) (k.corner j (omega (arith, m.within)))) (rw m.corner c);
    beyond = below_last (λ (j : ℕ). C.bits < (pair_at after.known j).bits) after.height
        (λ j h. omega (arith, beyond, below j h)) (omega (arith, beyond, last_bits));
    falling = λ j i h l. below_last (λ (i : ℕ). j < i → (pair_at after.known i).bits < (pair_at after.known j).bits) after.height
        (λ i l h. rw (m.rest i l, m.rest j (omega arith)) (k.falling j i h (omega (arith, m.within))))
        (λ h. omega (arith, last_bits, below j h)) i l h;
    keep = below_last (λ (j : ℕ). Smallest B (pair_at after.known j) (chosen_at after.known j).keep) after.height
        (λ j h. rw (m.rest j h) (k.keep j (omega (arith, m.within)))) (rw m.corner s);
  }
