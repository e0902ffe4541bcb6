-- A point stands in a list: its pair and its number of kept coefficients are an entry; and the price that gives an entry back.
use Rattle.std.specs.Prelude.{◌≡◌, List, ℕ, ◌+◌, ◌*◌, ◌<◌, get_or}
use Rattle.block.specs.Block.{Block}
use Rattle.price.specs.Accepted.{Accepted}
use Rattle.corners.specs.Pair.{Pair}
use Rattle.corners.specs.Listed.{entry}
use Rattle.kept.specs.Kept.{kept_to}
use Rattle.price_job.specs.PriceJob.{Decided}

-- of the first `count` entries
pub record InList (list : List ℕ) (count : ℕ) (P : Pair) (kept : ℕ) : Type 0 where
  pub place : ℕ
  pub inside : place < count
  pub pair : entry list place ≡ P
  pub keeps : get_or list (3 * place + 2) 0 ≡ kept

-- an accepted price at which whatever the price job decides is entry k
pub record PriceOf (B : ℕ → Block) (n : ℕ) (list : List ℕ) (k : ℕ) : Type 0 where
  pub a : ℕ
  pub b : ℕ
  pub accepted : Accepted a b
  pub pair : (P : Pair) (keep : List ℕ) → Decided B n a b P keep → P ≡ entry list k
  pub keeps : (P : Pair) (keep : List ℕ) → Decided B n a b P keep → kept_to (λ i. get_or keep i 0) n ≡ get_or list (3 * k + 2) 0
