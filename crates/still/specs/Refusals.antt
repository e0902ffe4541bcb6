-- The refusals of what is lent to a job, 1 to 6 and 10: each check by itself, then for each job the first that applies.
use Rattle.std.specs.Prelude.{Bool, not, ◌&&◌, ◌||◌, List, ℕ, ◌*◌, ◌/◌, ◌%◌, ◌^◌, eqb, ltb, ℤ, length, get_or}
use Rattle.block.specs.First.{first_below}
use Rattle.block.specs.Level.{ac_level, levels_of}
use Rattle.price.specs.Price.{outside}
use Rattle.answers.specs.Said.{Verdict, refuse, ◌then◌, when}

-- the first index below n at which a test holds is refused, as told
abbrev pub when_first : (ℕ → Bool) → ℕ → (ℕ → Verdict) → Verdict
when_first bad n told = when (ltb (first_below bad n) n) (told (first_below bad n))

-- 1: levels aren't 64×n long, n from 1 to 1,024
unfoldable pub levels_check : ℕ → Verdict
levels_check count =
    let n = count / 64 in
    when (not (eqb (64 * n) count) || ltb n 1 || ltb 1024 n) (refuse 1 count 0)

-- a table of numbers from low to high: a wrong count is told before a bad index
unfoldable pub outside_at : (low high : ℕ) → List ℕ → ℕ → Bool
outside_at low high values i = ltb (get_or values i 0) low || ltb high (get_or values i 0)

unfoldable pub table_check : (number count low high : ℕ) → List ℕ → Verdict
table_check number count low high values =
    when (not (eqb (length values) count)) (refuse number count 0)
    then when_first (outside_at low high values) count (λ i. refuse number i 0)

-- 2: not 64 steps, or a step outside 1 to 255
abbrev pub steps_check : List ℕ → Verdict
steps_check steps = table_check 2 64 1 255 steps

-- 3: not 256 lengths, or one above 16
abbrev pub lengths_check : List ℕ → Verdict
lengths_check lengths = table_check 3 256 0 16 lengths

-- 4: a or b outside its range, 1 for a, 2 for b
unfoldable pub price_check : (a b : ℕ) → Verdict
price_check a b = when (not (eqb (outside a b) 0)) (refuse 4 (outside a b) 0)

-- 5: the keep slice isn't n long; the list length isn't a multiple of 3
unfoldable pub keep_room_check : (n room : ℕ) → Verdict
keep_room_check n room = when (not (eqb room n)) (refuse 5 room 0)

unfoldable pub list_room_check : ℕ → Verdict
list_room_check room = when (not (eqb (room % 3) 0)) (refuse 5 room 0)

-- the magnitude of the AC level at index i of a still: position i % 64 of block i / 64; a DC has 0
unfoldable pub ac_at : List ℤ → ℕ → ℕ
ac_at levels i = ac_level (levels_of levels (i / 64)) (i % 64)

-- told with its block and its position
abbrev pub at_place : (number i : ℕ) → Verdict
at_place number i = refuse number (i / 64) (i % 64)

-- 6: an AC level outside −1,023 to 1,023
unfoldable pub bad_level : List ℤ → ℕ → Bool
bad_level levels i = ltb 1023 (ac_at levels i)

unfoldable pub ac_check : List ℤ → Verdict
ac_check levels = when_first (bad_level levels) (length levels) (at_place 6)

-- bit k of a keep number
abbrev pub bit_at : (keep k : ℕ) → ℕ
bit_at keep k = keep / 2 ^ k % 2

-- 10: a keep number sets bit 0, or the bit of a level that is 0
unfoldable pub bad_keep : List ℤ → List ℕ → ℕ → Bool
bad_keep levels keep i = eqb (bit_at (get_or keep (i / 64) 0) (i % 64)) 1 && eqb (ac_at levels i) 0

unfoldable pub keep_check : List ℤ → List ℕ → Verdict
keep_check levels keep = when_first (bad_keep levels keep) (length levels) (at_place 10)

-- The lowest number that applies: 1, 2 and 3 of a still with its tables, then the others of each job.
abbrev pub still_check : List ℤ → (steps lengths : List ℕ) → Verdict
still_check levels steps lengths = levels_check (length levels) then steps_check steps then lengths_check lengths

unfoldable pub price_verdict : List ℤ → (steps lengths : List ℕ) → (a b room : ℕ) → Verdict
price_verdict levels steps lengths a b room =
    still_check levels steps lengths then price_check a b then keep_room_check (length levels / 64) room then ac_check levels

unfoldable pub list_verdict : List ℤ → (steps lengths : List ℕ) → (room : ℕ) → Verdict
list_verdict levels steps lengths room = still_check levels steps lengths then list_room_check room then ac_check levels

unfoldable pub budget_verdict : List ℤ → (steps lengths : List ℕ) → (room : ℕ) → Verdict
budget_verdict levels steps lengths room =
    still_check levels steps lengths then keep_room_check (length levels / 64) room then ac_check levels

unfoldable pub thin_verdict : List ℤ → (keep : List ℕ) → Verdict
thin_verdict levels keep =
    levels_check (length levels) then keep_room_check (length levels / 64) (length keep) then ac_check levels then keep_check levels keep
