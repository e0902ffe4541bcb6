-- The table of bits: what stands at its entries, what they cost, and whether no code is missing.
use Rattle.std.specs.Prelude.{◌≡◌, Bool, List, ℕ, ◌+◌, ◌-◌, ◌*◌, ◌≤◌, ◌<◌, eqb, get_or}
use Rattle.block.specs.First.{pick, first_below}
use Rattle.block.specs.Block.{LevelCode, level_bits}
use Rattle.forward.specs.declared.table.TheConstants.{NO, LEAST, SAVED, FAR}

-- an entry x of the table: n bits if the codes exist
pub data Entry (Exists : Type 0) (n x : ℕ) : Type 0 where
  some : Exists → x ≡ n → Entry Exists n x
  none : (Exists → ⊥) → x ≡ NO → Entry Exists n x

-- the bits of a level of size s after a run r at s * 64 + r, and of the end of block after position j at 63 - j; and two
-- entries that no run reaches: the least bits of a level, and the most bits that a longer run saves
pub record BitsOf (len : ℕ → ℕ) (bits : List ℕ) : Type 0 where
  pub levels : (s r : ℕ) → 0 < s → s ≤ 10 → r < 63 → Entry (LevelCode len r s) (level_bits len r s) (get_or bits (s * 64 + r) 0)
  pub ends : (j : ℕ) → j < 64 → Entry (j < 63 → 0 < len 0) (pick (eqb j 63) 0 (len 0)) (get_or bits (63 - j) 0)
  pub least : (s r : ℕ) → 0 < s → s ≤ 10 → r < 63 → get_or bits LEAST 0 ≤ get_or bits (s * 64 + r) 0
  pub saved : (s r q : ℕ) → 0 < s → s ≤ 10 → r < q → q < 63 → get_or bits (s * 64 + r) 0 ≤ get_or bits (s * 64 + q) 0 + get_or bits SAVED 0

unfoldable pub misses : List ℕ → ℕ → Bool
misses bits x = eqb (get_or bits x 0) NO

-- no code is missing in the table
unfoldable pub is_full : List ℕ → Bool
is_full bits = eqb (first_below (misses bits) 704) 704

-- the cost of n bits, where NO costs FAR
unfoldable pub priced : ℕ → ℕ → ℕ
priced b n = pick (eqb n NO) FAR (b * n)
