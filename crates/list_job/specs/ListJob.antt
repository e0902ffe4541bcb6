-- What the list job promises.
use Rattle.std.specs.Prelude.{◌≡◌, Result, List, ℕ, ◌+◌, ◌*◌, ◌/◌, ◌≤◌, ◌<◌, ℤ, length, get_or}
use Rattle.block.specs.Block.{Block}
use Rattle.corners.specs.Pair.{Pair}
use Rattle.corners.specs.Still.{Attains}
use Rattle.corners.specs.Listed.{CornerList, entry, entries}
use Rattle.attained.specs.Attained.{block_at, Attained}
use Rattle.attained.specs.Uncodable.{HasChoice, FirstUncodable}
use Rattle.merge.specs.CornerChoice.{CornerKept}
use Rattle.answers.specs.declared.Refusal.{Refusal}
use Rattle.answers.specs.Said.{fine, refuse, said_corners, corners, refused}
use Rattle.still.specs.Refusals.{list_verdict}

-- the list holds the corners L from its start, each with the coefficients that its choice keeps, and behind them what it held before
pub record Stored (B : ℕ → Block) (n : ℕ) (L : List Pair) (before after : List ℕ) : Type 0 where
  pub count : length after ≡ length before
  pub pairs : entries after (length L) ≡ L
  pub kept : (k : ℕ) → k < length L → CornerKept B n (entry after k) (get_or after (3 * k + 2) 0)
  pub behind : (j : ℕ) → 3 * length L ≤ j → get_or after j 0 ≡ get_or before j 0

-- the answer r and the list after the call, where no check refuses: 7, 8, or every corner is listed
pub data Lists (B : ℕ → Block) (n : ℕ) (before : List ℕ) (r : Result ℕ Refusal) (after : List ℕ) : Type 0 where
  uncodable : (i : ℕ) → FirstUncodable B n i → said_corners r ≡ refused 7 i 0 → after ≡ before → Lists B n before r after
  short : ((i : ℕ) → i < n → HasChoice (B i)) → (L : List Pair) → CornerList (Attains (λ i. Attained (B i)) n) L → length before < 3 * length L
      → said_corners r ≡ refused 8 (length L) 0 → after ≡ before → Lists B n before r after
  lists : ((i : ℕ) → i < n → HasChoice (B i)) → (L : List Pair) → CornerList (Attains (λ i. Attained (B i)) n) L → 3 * length L ≤ length before
      → said_corners r ≡ corners (length L) → Stored B n L before after → Lists B n before r after

-- the same for whatever is lent
pub data ListMeets (levels : List ℤ) (steps lengths : List ℕ) (before : List ℕ) (r : Result ℕ Refusal) (after : List ℕ) : Type 0 where
  refuses : (number first second : ℕ) → list_verdict levels steps lengths (length before) ≡ refuse number first second
      → said_corners r ≡ refused number first second → after ≡ before
      → ListMeets levels steps lengths before r after
  answers : list_verdict levels steps lengths (length before) ≡ fine
      → Lists (block_at levels steps lengths) (length levels / 64) before r after
      → ListMeets levels steps lengths before r after
