-- What the price job promises.
use Rattle.std.specs.Prelude.{◌≡◌, Result, List, ℕ, ◌/◌, ◌<◌, ℤ, length, get_or}
use Rattle.block.specs.Block.{Block}
use Rattle.corners.specs.Pair.{Pair}
use Rattle.corners.specs.Still.{total}
use Rattle.attained.specs.Attained.{block_at, Gives}
use Rattle.attained.specs.Uncodable.{FirstUncodable}
use Rattle.answers.specs.declared.Point.{Point}
use Rattle.answers.specs.declared.Refusal.{Refusal}
use Rattle.answers.specs.Said.{fine, refuse, said_point, point, refused}
use Rattle.still.specs.Refusals.{price_verdict}
use Rattle.kept.specs.Kept.{kept_of}

-- the keep numbers are those of the blocks' best choices, and P is the sum of their pairs
pub record Decided (B : ℕ → Block) (n a b : ℕ) (P : Pair) (keep : List ℕ) : Type 0 where
  pub pair : ℕ → Pair
  pub gives : (i : ℕ) → i < n → Gives (B i) a b (pair i) (get_or keep i 0)
  pub adds : P ≡ total pair n

-- the answer r and the keep slice after the call, where no check refuses: 7, or every block is decided
pub data Priced (B : ℕ → Block) (n a b : ℕ) (before : List ℕ) (r : Result Point Refusal) (after : List ℕ) : Type 0 where
  uncodable : (i : ℕ) → FirstUncodable B n i → said_point r ≡ refused 7 i 0 → after ≡ before → Priced B n a b before r after
  decides : (P : Pair) → Decided B n a b P after → length after ≡ length before
      → said_point r ≡ point P.bits P.error (kept_of after)
      → Priced B n a b before r after

-- the same for whatever is lent
pub data PriceMeets (levels : List ℤ) (steps lengths : List ℕ) (a b : ℕ) (before : List ℕ) (r : Result Point Refusal) (after : List ℕ) : Type 0 where
  refuses : (number first second : ℕ)
      → price_verdict levels steps lengths a b (length before) ≡ refuse number first second
      → said_point r ≡ refused number first second → after ≡ before
      → PriceMeets levels steps lengths a b before r after
  prices : price_verdict levels steps lengths a b (length before) ≡ fine
      → Priced (block_at levels steps lengths) (length levels / 64) a b before r after
      → PriceMeets levels steps lengths a b before r after
