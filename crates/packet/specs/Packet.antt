-- A packed still: its bit fields, the levels, steps and lengths that they hold, and when it is refused.
use Rattle.std.specs.Prelude.{Bool, ◌&&◌, List, [], ◌∷◌, map, ℕ, zero, suc, ◌+◌, ◌-◌, ◌*◌, ◌/◌, ◌%◌, ◌^◌, eqb, ltb, leb, ℤ, pos, ◌-ℤ◌, length, get_or}
use Rattle.block.specs.First.{pick}
use Rattle.answers.specs.Said.{Verdict, fine, refuse}

-- bit j of the bytes, each byte's most significant bit first
unfoldable pub bit_of : List ℕ → ℕ → ℕ
bit_of bytes j = get_or bytes (j / 8) 0 / 2 ^ (7 - j % 8) % 2

-- the number of `width` bits from bit `at` on, most significant bit first
unfoldable pub field : List ℕ → ℕ → ℕ → ℕ
field bytes at zero = 0
field bytes at (suc width) = field bytes at width * 2 + bit_of bytes (at + width)

-- n such numbers, one behind the other
unfoldable pub fields : List ℕ → ℕ → ℕ → ℕ → List ℕ
fields bytes at width zero = []
fields bytes at width (suc n) = field bytes at width ∷ fields bytes (at + width) width n

-- where the steps, the lengths and the levels begin: behind version and blocks, 64 steps of 8 and 256 lengths of 5
abbrev pub steps_at : ℕ
steps_at = 8 + 8

abbrev pub lengths_at : ℕ
lengths_at = steps_at + 64 * 8

abbrev pub levels_at : ℕ
levels_at = lengths_at + 256 * 5

-- a level of twelve bits in two's complement
unfoldable pub twos_complement : ℕ → ℤ
twos_complement n = pick (ltb n 2048) (pos n) (pos n -ℤ pos 4096)

unfoldable pub packed_version : List ℕ → ℕ
packed_version packet = field packet 0 8

unfoldable pub packed_blocks : List ℕ → ℕ
packed_blocks packet = field packet 8 8 + 1

unfoldable pub packed_steps : List ℕ → List ℕ
packed_steps packet = fields packet steps_at 8 64

unfoldable pub packed_lengths : List ℕ → List ℕ
packed_lengths packet = fields packet lengths_at 5 256

unfoldable pub packed_levels : List ℕ → List ℤ
packed_levels packet = map twos_complement (fields packet levels_at 12 (64 * packed_blocks packet))

-- its first two bytes are there, it is of version 1, and it is as long as its own number of blocks asks for
unfoldable pub well_packed : List ℕ → Bool
well_packed packet = leb 2 (length packet) && eqb (packed_version packet) 1 && eqb (length packet) (226 + 96 * packed_blocks packet)

unfoldable pub packet_verdict : List ℕ → Verdict
packet_verdict packet = pick (well_packed packet) fine (refuse 11 (length packet) 0)
