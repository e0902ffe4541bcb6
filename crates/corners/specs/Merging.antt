-- For the functions that merge the blocks' corners, and not for a reader of the promises: where each block and the still stand.
use Rattle.std.specs.Prelude.{◌≡◌, cond, eqb, ℕ, zero, suc, ◌+◌, ◌*◌, ◌-◌, ◌≤◌, ◌<◌}
use mathlib.Core.List.{List, Memᴰ}
use Rattle.corners.specs.Pair.{Pair}
use Rattle.corners.specs.Price.{Least}
use Rattle.corners.specs.Corner.{Corner}
use Rattle.corners.specs.Listed.{Rising, Given}

-- The corners with fewer bits than `T` are listed, and `T` is cheapest at the price (a, b), by which the list has come to it.
pub record SoFar (Att : Pair → Type 0) (L : List Pair) (a b : ℕ) (T : Pair) : Type 0 where
  pub attained : Att T
  pub inward : Least Att a b T
  pub rising : Rising L
  pub below : (P : Pair) → Memᴰ P L → P.bits < T.bits
  pub sound : (P : Pair) → Memᴰ P L → Corner Att P
  pub given : (P : Pair) → Memᴰ P L → Given Att P
  pub complete : (P : Pair) → Corner Att P → P.bits < T.bits → Memᴰ P L

-- The pair with c bits more and d error less.
abbrev pub ahead : Pair → ℕ → ℕ → Pair
ahead C c d = record { bits = C.bits + c; error = C.error - d }

-- A block's way on from its corner `C`: run c and fall d to its next corner.
pub record Way (A : Pair → Type 0) (C : Pair) (c d : ℕ) : Type 0 where
  pub run : 1 ≤ c
  pub fall : 1 ≤ d
  pub enough : d ≤ C.error
  pub corner : Corner A (ahead C c d)
  pub next : (P : Pair) → Corner A P → C.bits < P.bits → C.bits + c ≤ P.bits

-- A block on its course from `C` to `H`, its corner at the price (1, low): `H` is reached, and (1, low) stands for a way; or it is ahead.
pub data Course (A : Pair → Type 0) (low : ℕ) (H : Pair) : Pair → ℕ → ℕ → Type 0 where
  reached : Course A low H H 1 low
  short : {C : Pair} {c d : ℕ} → C.bits < H.bits → Way A C c d → Course A low H C c d

-- A block at its corner `C`, cheapest at (a, b), by which the still has come here, and at the flatter (c, d), by which it goes on.
pub record Stands (A : Pair → Type 0) (a b : ℕ) (C : Pair) (c d : ℕ) : Type 0 where
  pub corner : Corner A C
  pub inward : Least A a b C
  pub outward : Least A c d C
  pub flatter : a * d < b * c

-- What a block at `C` may do while the still goes on by (a, b): stay, where its own (c, d) is no steeper; or go a parallel way.
pub data Goes (A : Pair → Type 0) (a b : ℕ) (C : Pair) (c d : ℕ) : Pair → Type 0 where
  stays : d * a ≤ b * c → Goes A a b C c d C
  moves : Way A C c d → d * a ≡ b * c → Goes A a b C c d (ahead C c d)

-- Where a block is once the still has gone on by (a, b).
abbrev pub onward : ℕ → ℕ → Pair → ℕ → ℕ → Pair
onward a b C c d = cond (eqb (d * a) (b * c)) (ahead C c d) C

-- The bits by which the first n blocks grow.
abbrev pub growth : ℕ → ℕ → (ℕ → ℕ) → (ℕ → ℕ) → ℕ → ℕ
growth a b c d zero = 0
growth a b c d (suc n) = growth a b c d n + cond (eqb (d n * a) (b * c n)) (c n) 0
