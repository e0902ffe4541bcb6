-- What the contract of one of the thinning job's own functions says. What the job promises does not rest on it.
use Rattle.std.specs.Prelude.{Bool, ℕ, eqb}
use Rattle.still.specs.Refusals.{bit_at}

abbrev pub is_set : (bits k : ℕ) → Bool
is_set bits k = eqb (bit_at bits k) 1
