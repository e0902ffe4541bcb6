-- How many coefficients keep numbers keep: the count of their ones.
use Rattle.std.specs.Prelude.{List, ℕ, zero, suc, ◌+◌, length, get_or}
use Rattle.std.specs.Int.Count.{ones}

-- of the keep numbers of the first n blocks
abbrev pub kept_to : (ℕ → ℕ) → ℕ → ℕ
kept_to keep zero = 0
kept_to keep (suc n) = kept_to keep n + ones (keep n)

abbrev pub kept_of : List ℕ → ℕ
kept_of keep = kept_to (λ i. get_or keep i 0) (length keep)
