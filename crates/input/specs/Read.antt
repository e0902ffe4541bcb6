-- What a buffer holds where reading into it broke off.
use Rattle.std.specs.Prelude.{ℕ, ◌≤◌, List, length, take, Option}
use Rattle.std.specs.Io.KnownBytes.{Consumes}

-- The first bytes of it are what the reader gave, in order, and all that it gave.
pub record HoldsWhatWasRead (old new : Option (List ℕ)) (buf : List ℕ) : Type 0 where
  pub count : ℕ
  pub within : count ≤ length buf
  pub bytes : Consumes old new (take count buf)
