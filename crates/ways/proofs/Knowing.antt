-- What is known ahead of a corner is known ahead of the next, which is the goal where it is all that is known.
-- Assumes nothing.
use Rattle.std.proofs.Common.{◌≡◌, ap, ℕ, List, ◌-◌, ◌<◌, arith}
use Rattle.block.specs.Block.{Block}
use Rattle.corners.specs.Pair.{Pair}
use Rattle.corners.specs.Corner.{Corner}
use Rattle.attained.specs.Attained.{Attained, Smallest}
use Rattle.attained.specs.Chosen.{chosen_at, pair_at}
use Rattle.forward.specs.declared.Chosen.{Chosen}
use Rattle.ways.specs.Known.{Known}

-- A goal ahead is known.
pub known_one : {B : Block} {C : Pair} {known : List Chosen} → Corner (Attained B) (pair_at known 0) → Smallest B (pair_at known 0) (chosen_at known 0).keep
    → C.bits < (pair_at known 0).bits → Known B C 1 known
known_one c s b = record {
  some = omega arith;
  most = omega arith;
  corner = λ j h. let e : j ≡ 0 = omega arith in rw e c;
  beyond = λ j h. let e : j ≡ 0 = omega arith in rw e b;
  falling = λ j k h l. absurd (omega arith);
  keep = λ j h. let e : j ≡ 0 = omega arith in rw e s;
}

-- From the nearest known corner the others are ahead.
pub known_less : {B : Block} {C : Pair} {height : ℕ} {known : List Chosen} → Known B C height known → 1 < height
    → Known B (pair_at known (height - 1)) (height - 1) known
known_less {height = height} k h = record {
  some = omega arith;
  most = omega (arith, k.most);
  corner = λ j l. k.corner j (omega arith);
  beyond = λ j l. k.falling j (height - 1) l (omega arith);
  falling = λ i j l m. k.falling i j l (omega arith);
  keep = λ j l. k.keep j (omega arith);
}

-- The only known corner is the goal.
pub known_last : (known : List Chosen) {height : ℕ} → height ≡ 1 → chosen_at known (height - 1) ≡ chosen_at known 0
known_last known e = ap (λ (h : ℕ). chosen_at known (h - 1)) e
