-- Contracts of the private searches; no promise rests on this file.
use Rattle.std.specs.Prelude.{◌≡◌, Bool, false, ◌&&◌, ◌||◌, List, ℕ, ◌<◌, eqb, ltb, ℤ, pos, nat_abs, get_or, Option, Some, None, cond}
use Rattle.std.specs.List.{flat_map}
use Rattle.block.specs.First.{first_below}
use Rattle.block.specs.Level.{ac_level}
use Rattle.still.specs.Refusals.{bit_at}

-- a test fails at each number below n
abbrev pub Passed : (ℕ → Bool) → ℕ → Type 0
Passed bad n = (i : ℕ) → i < n → bad i ≡ false

-- the first number below n at which a test holds, if there is one
unfoldable pub first_of : (ℕ → Bool) → ℕ → Option ℕ
first_of bad n = cond (ltb (first_below bad n) n) (Some (first_below bad n)) None

-- a value of a table is outside low to high
abbrev pub outside_range : (low high v : ℕ) → Bool
outside_range low high v = ltb v low || ltb high v

-- the levels of blocks, one after the other
abbrev pub levels_in : List (List ℤ) → List ℤ
levels_in blocks = flat_map (λ block. block) blocks

-- the AC level at a position of a block is outside −1,023 to 1,023
unfoldable pub level_bad : List ℤ → ℕ → Bool
level_bad block k = ltb 1023 (ac_level block k)

-- the keep number of a block sets bit k, and k is 0 or the level there is
unfoldable pub bit_bad : List ℤ → (keep k : ℕ) → Bool
bit_bad block keep k = eqb (bit_at keep k) 1 && eqb (ac_level block k) 0

-- bit k is set, and the level at k is 0
unfoldable pub zero_kept : List ℤ → (bits k : ℕ) → Bool
zero_kept levels bits k = eqb (bit_at bits k) 1 && eqb (nat_abs (get_or levels k (pos 0))) 0
