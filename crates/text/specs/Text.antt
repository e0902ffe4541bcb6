-- The text of the list program, in ASCII codes: one blank parts the fields, a newline ends each line, the last too.
use Rattle.std.specs.Prelude.{◌≡◌, List, [], ◌∷◌, ◌++◌, ℕ, zero, suc, ◌+◌, ◌*◌, ◌/◌, ◌%◌, ◌^◌, ◌≤◌, ltb, length, get_or, take, drop, codes}
use Rattle.block.specs.First.{first_below}

-- the fewest decimal digits that hold n, one for 0
unfoldable pub places : ℕ → ℕ
places n = first_below (λ k. ltb n (10 ^ (k + 1))) n + 1

-- the last k digits of n, the code of 0 being 48
unfoldable pub last_digits : ℕ → ℕ → List ℕ
last_digits zero n = []
last_digits (suc k) n = last_digits k (n / 10) ++ (48 + n % 10) ∷ []

-- n in decimal, without zeros in front
unfoldable pub decimal : ℕ → List ℕ
decimal n = last_digits (places n) n

abbrev pub blank : ℕ
blank = 32

abbrev pub newline : ℕ
newline = 10

-- three numbers and the end of their line
unfoldable pub line : ℕ → ℕ → ℕ → List ℕ
line x y z = decimal x ++ blank ∷ decimal y ++ blank ∷ decimal z ++ newline ∷ []

-- the lines of the first n corners of a list, three numbers each: bits, error, kept
unfoldable pub corner_lines : List ℕ → ℕ → List ℕ
corner_lines list zero = []
corner_lines list (suc k) = corner_lines list k ++ line (get_or list (3 * k) 0) (get_or list (3 * k + 1) 0) (get_or list (3 * k + 2) 0)

-- `corners` and their number, then a line for each
unfoldable pub corners_text : ℕ → List ℕ → List ℕ
corners_text n list = codes "corners " ++ decimal n ++ newline ∷ corner_lines list n

-- `refused`, the number of the refusal and its two details
unfoldable pub refused_text : ℕ → ℕ → ℕ → List ℕ
refused_text number first second = codes "refused " ++ line number first second

-- the first r bytes are the text, and those behind them are as they were before
pub record Holds (before text after : List ℕ) (r : ℕ) : Type 0 where
  pub within : r ≤ length after
  pub front : take r after ≡ text
  pub behind : drop r after ≡ drop r before
