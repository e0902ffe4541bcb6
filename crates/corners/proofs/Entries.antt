-- Stores to the list: one behind the entries leaves them, and two numbers make one entry more.
-- Assumes nothing.
use mathlib.Core.Path.{◌≡◌, refl}
use mathlib.Core.List.{List, [], ◌∷◌, ◌++◌}
use lib.ListN.{get_or, set}
use lib.Seq.{get_or-set_other}
use Prim.Native.Nat.{ℕ, zero, suc, ◌+◌, ◌*◌, ◌≤◌}
use native.Mathlib.Omega.{arith}
use native.Mathlib.Numerals.{add-one}
use Rattle.corners.specs.Pair.{Pair}
use Rattle.corners.specs.Listed.{entries}

pub entries_set : (out : List ℕ) (k j v : ℕ) → 3 * k ≤ j → entries (set out j v) k ≡ entries out k
entries_set out zero j v h = refl
entries_set out (suc k) j v h =
    rw (get_or-set_other out j (3 * k) v 0 (omega arith), get_or-set_other out j (3 * k + 1) v 0 (omega arith), entries_set out k j v (omega arith))

pub entries_more : (out : List ℕ) (k : ℕ) (P : Pair) → get_or out (3 * k) 0 ≡ P.bits → get_or out (3 * k + 1) 0 ≡ P.error
    → entries out (k + 1) ≡ entries out k ++ (P ∷ [])
entries_more out k P p q = rw (add-one, p, q)
