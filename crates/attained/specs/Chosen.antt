-- The best choices that a search finds, as a slice holds them: their pairs of bits and error.
use Rattle.std.specs.Prelude.{List, ℕ, slice_index_or}
use Rattle.forward.specs.declared.Chosen.{Chosen}
use Rattle.corners.specs.Pair.{Pair}

-- what stands for the choice behind the end of a slice
abbrev pub none : Chosen
none = record { bits = record { 0 = 0 }; error = record { 0 = 0 }; keep = 0 }

abbrev pub chosen_at : List Chosen → ℕ → Chosen
chosen_at each i = slice_index_or each i none

abbrev pub pair_in : Chosen → Pair
pair_in c = record { bits = c.bits.0; error = c.error.0 }

abbrev pub pair_at : List Chosen → ℕ → Pair
pair_at each i = pair_in (chosen_at each i)
