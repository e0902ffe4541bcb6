-- A price's range: a on error, b on bits.
use Rattle.std.specs.Prelude.{ℕ, ◌≤◌}

abbrev pub most_on_error : ℕ
most_on_error = 65535

abbrev pub most_on_bits : ℕ
most_on_bits = 8000000000000

pub record Accepted (a b : ℕ) : Type 0 where
  pub a_low : 1 ≤ a
  pub a_high : a ≤ most_on_error
  pub b_high : b ≤ most_on_bits
