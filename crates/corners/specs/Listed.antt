-- The list of the corners, and how the lent numbers hold it.
use mathlib.Core.List.{List, [], ◌∷◌, ◌++◌, Memᴰ}
use Rattle.std.specs.Prelude.{get_or, ℕ, zero, suc, ◌+◌, ◌*◌, ◌<◌}
use Rattle.corners.specs.Pair.{Pair}
use Rattle.price.specs.Accepted.{Accepted}
use Rattle.corners.specs.Price.{Wins}
use Rattle.corners.specs.Corner.{Corner}

-- Rising bits, so that no pair stands in the list twice.
abbrev pub Rising : List Pair → Type 0
Rising [] = Unit {0}
Rising (P ∷ L) = ((Q : Pair) → Memᴰ Q L → P.bits < Q.bits) × Rising L

-- Some accepted price gives `P`.
pub record Given (Att : Pair → Type 0) (P : Pair) : Type 0 where
  pub a : ℕ
  pub b : ℕ
  pub accepted : Accepted a b
  pub wins : Wins Att a b P

-- Each corner once, in rising bits, and nothing else; and each is given by some accepted price.
pub record CornerList (Att : Pair → Type 0) (L : List Pair) : Type 0 where
  pub rising : Rising L
  pub sound : (P : Pair) → Memᴰ P L → Corner Att P
  pub complete : (P : Pair) → Corner Att P → Memᴰ P L
  pub given : (P : Pair) → Memᴰ P L → Given Att P

-- An entry is three numbers: bits, error, kept coefficients. Its pair is the first two.
abbrev pub entry : List ℕ → ℕ → Pair
entry out k = record { bits = get_or out (3 * k) 0; error = get_or out (3 * k + 1) 0 }

-- The pairs of the first k entries.
abbrev pub entries : List ℕ → ℕ → List Pair
entries out zero = []
entries out (suc k) = entries out k ++ (entry out k ∷ [])
