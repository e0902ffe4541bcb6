-- A whole output of the list program, and a refusal, letter by letter.
-- Assumes nothing.
use mathlib.Core.Path.{◌≡◌, refl}
use mathlib.Core.List.{List, [], ◌∷◌}
use Prim.Native.Nat.{ℕ}
use Rattle.block.specs.First.{first_from, first_below}
use Rattle.text.specs.Text.{places, last_digits, decimal, line, corner_lines, corners_text, refused_text}

abbrev pub four_corners : List ℕ
four_corners = 8 ∷ 108 ∷ 0 ∷ 22 ∷ 8 ∷ 1 ∷ 25 ∷ 4 ∷ 2 ∷ 31 ∷ 0 ∷ 3 ∷ []

-- corners 4, 8 108 0, 22 8 1, 25 4 2, 31 0 3
pub whole_output :
    corners_text 4 four_corners
    ≡ 99 ∷ 111 ∷ 114 ∷ 110 ∷ 101 ∷ 114 ∷ 115 ∷ 32 ∷ 52 ∷ 10
    ∷ 56 ∷ 32 ∷ 49 ∷ 48 ∷ 56 ∷ 32 ∷ 48 ∷ 10
    ∷ 50 ∷ 50 ∷ 32 ∷ 56 ∷ 32 ∷ 49 ∷ 10
    ∷ 50 ∷ 53 ∷ 32 ∷ 52 ∷ 32 ∷ 50 ∷ 10
    ∷ 51 ∷ 49 ∷ 32 ∷ 48 ∷ 32 ∷ 51 ∷ 10 ∷ []
unfolding first_from first_below places last_digits decimal line corner_lines corners_text
whole_output = refl

-- refused 11 24803 0
pub wrong_packet :
    refused_text 11 24803 0
    ≡ 114 ∷ 101 ∷ 102 ∷ 117 ∷ 115 ∷ 101 ∷ 100 ∷ 32 ∷ 49 ∷ 49 ∷ 32 ∷ 50 ∷ 52 ∷ 56 ∷ 48 ∷ 51 ∷ 32 ∷ 48 ∷ 10 ∷ []
unfolding first_from first_below places last_digits decimal line refused_text
wrong_packet = refl
