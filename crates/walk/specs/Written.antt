-- What a walk along the corners writes: the first of them that there is room for, and nothing behind them.
use Rattle.std.specs.Prelude.{◌≡◌, List, length, get_or, take, ℕ, ◌+◌, ◌*◌, ◌≤◌, ◌<◌}
use Rattle.block.specs.Block.{Block}
use Rattle.corners.specs.Pair.{Pair}
use Rattle.corners.specs.Still.{Attains}
use Rattle.corners.specs.Listed.{CornerList, entry, entries}
use Rattle.attained.specs.Attained.{Attained}
use Rattle.merge.specs.CornerChoice.{CornerKept}

-- `held` of the corners L are written, each with the coefficients that its choice keeps: all, or as many as there is room for
pub record Written (B : ℕ → Block) (n : ℕ) (L : List Pair) (before after : List ℕ) : Type 0 where
  pub held : ℕ
  pub some : held ≤ length L
  pub room : 3 * held ≤ length after
  pub full : held < length L → length after < 3 * held + 3
  pub long : length after ≡ length before
  pub pairs : entries after held ≡ take held L
  pub kept : (k : ℕ) → k < held → CornerKept B n (entry after k) (get_or after (3 * k + 2) 0)
  pub behind : (j : ℕ) → 3 * held ≤ j → get_or after j 0 ≡ get_or before j 0

-- the still has `count` corners
pub record Walked (B : ℕ → Block) (n : ℕ) (before : List ℕ) (count : ℕ) (after : List ℕ) : Type 0 where
  pub list : List Pair
  pub corners : CornerList (Attains (λ i. Attained (B i)) n) list
  pub size : length list ≡ count
  pub written : Written B n list before after
