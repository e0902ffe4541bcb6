-- What the functions that make the table of bits promise each other: no public contract speaks of it.
use Rattle.std.specs.Prelude.{◌≡◌, List, ℕ, ◌+◌, ◌*◌, ◌≤◌, ◌<◌, length, get_or, Option, MatchOption}
use Rattle.block.specs.Block.{LevelCode, level_bits}
use Rattle.forward.specs.declared.table.TheConstants.{NO, LEAST, SAVED}
use Rattle.forward.specs.Bits.{Entry}
use Rattle.still.specs.declared.Still.{Still}
use Rattle.search.specs.declared.table.Margins.{Margins}

-- the lengths of a still's codes, 0 where there is none
abbrev pub len_in : Still → ℕ → ℕ
len_in s i = get_or s.lengths.now i 0

-- n bits, if the codes exist
abbrev pub IsEntry : Type 0 → ℕ → Option ℕ → Type 0
IsEntry Exists n r = MatchOption r (Exists → ⊥) (λ m. Exists × (m ≡ n))

-- the table is filled for the ends of block, for all levels of smaller sizes, and for the levels of a size after shorter runs;
-- the entries that no run reaches are 0, which marks no code as missing
pub record Filled (len : ℕ → ℕ) (bits : List ℕ) (size run : ℕ) : Type 0 where
  pub long : length bits ≡ 704
  pub most : (x : ℕ) → get_or bits x 0 ≤ NO
  pub last : get_or bits 0 0 ≡ 0
  pub ends : (x : ℕ) → 0 < x → x < 64 → Entry (0 < len 0) (len 0) (get_or bits x 0)
  pub levels : (s r : ℕ) → 0 < s → s < size → r < 63 → Entry (LevelCode len r s) (level_bits len r s) (get_or bits (s * 64 + r) 0)
  pub row : (r : ℕ) → r < run → Entry (LevelCode len r size) (level_bits len r size) (get_or bits (size * 64 + r) 0)
  pub unused : (s : ℕ) → 0 < s → s ≤ 10 → get_or bits (s * 64 + 63) 0 ≡ 0

-- margins m become n with the levels of one size: the least bits are the greatest number that is at most m's and those of
-- each level, and what is saved is the least number that is at least m's and what each longer run saves
pub record RowSwept (bits : List ℕ) (s : ℕ) (m n : Margins) : Type 0 where
  pub less : n.least ≤ m.least
  pub more : m.saved ≤ n.saved
  pub most : m.saved ≤ NO → n.saved ≤ NO
  pub least : (r : ℕ) → r < 63 → n.least ≤ get_or bits (s * 64 + r) 0
  pub saved : (r q : ℕ) → r < q → q < 63 → get_or bits (s * 64 + r) 0 ≤ get_or bits (s * 64 + q) 0 + n.saved
  pub greatest : (k : ℕ) → k ≤ m.least → ((r : ℕ) → r < 63 → k ≤ get_or bits (s * 64 + r) 0) → k ≤ n.least
  pub fewest : (k : ℕ) → m.saved ≤ k → ((r q : ℕ) → r < q → q < 63 → get_or bits (s * 64 + r) 0 ≤ get_or bits (s * 64 + q) 0 + k) → n.saved ≤ k

-- the margins of the levels of smaller sizes, exactly; a level has at least one bit, so that less than NO is saved
pub record Swept (bits : List ℕ) (m : Margins) (size : ℕ) : Type 0 where
  pub least_most : m.least < NO
  pub saved_most : m.saved ≤ NO
  pub saved_under : ((s r : ℕ) → 0 < s → s < size → r < 63 → 0 < get_or bits (s * 64 + r) 0) → m.saved < NO
  pub least : (s r : ℕ) → 0 < s → s < size → r < 63 → m.least ≤ get_or bits (s * 64 + r) 0
  pub saved : (s r q : ℕ) → 0 < s → s < size → r < q → q < 63 → get_or bits (s * 64 + r) 0 ≤ get_or bits (s * 64 + q) 0 + m.saved
  pub greatest : (k : ℕ) → k < NO → ((s r : ℕ) → 0 < s → s < size → r < 63 → k ≤ get_or bits (s * 64 + r) 0) → k ≤ m.least
  pub fewest : (k : ℕ) → ((s r q : ℕ) → 0 < s → s < size → r < q → q < 63 → get_or bits (s * 64 + r) 0 ≤ get_or bits (s * 64 + q) 0 + k) → m.saved ≤ k

-- no greater number below NO is at most the bits of every level, and no smaller one is at least what each longer run saves
pub record ExactMargins (bits : List ℕ) : Type 0 where
  pub least : (k : ℕ) → k < NO → ((s r : ℕ) → 0 < s → s ≤ 10 → r < 63 → k ≤ get_or bits (s * 64 + r) 0) → k ≤ get_or bits LEAST 0
  pub saved : (k : ℕ) → ((s r q : ℕ) → 0 < s → s ≤ 10 → r < q → q < 63 → get_or bits (s * 64 + r) 0 ≤ get_or bits (s * 64 + q) 0 + k) → get_or bits SAVED 0 ≤ k
