-- What the methods of `Text` promise: bytes put behind a text.
use Rattle.std.specs.Prelude.{◌≡◌, List, ◌++◌, ℕ, ◌+◌, ◌≤◌, length, take, drop}

-- the text of `at` bytes goes on with `more`, of at most `most` bytes, up to place r; the bytes behind it are as they were before
pub record Put (most : ℕ) (before : List ℕ) (at : ℕ) (more after : List ℕ) (r : ℕ) : Type 0 where
  pub text : take r after ≡ take at before ++ more
  pub behind : drop r after ≡ drop r before
  pub room : length after ≡ length before
  pub grows : at ≤ r
  pub short : r ≤ at + most
