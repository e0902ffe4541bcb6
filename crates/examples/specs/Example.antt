-- What a worked example claims.
use Rattle.std.specs.Prelude.{◌≡◌, List, [], ◌∷◌, ℕ, ◌<◌, ℤ, pos, length, get_or, replicate, set}
use Rattle.block.specs.Block.{Block}
use Rattle.block.specs.Choice.{CodableChoice, bits, error, keep_number}
use Rattle.block.specs.Level.{block_of}
use Rattle.price.specs.Best.{Best, NoChoice}
use Rattle.corners.specs.Pair.{Pair}
use Rattle.corners.specs.Still.{Attains}
use Rattle.corners.specs.Corner.{Corner}
use Rattle.corners.specs.Listed.{CornerList}
use Rattle.corners.specs.Fits.{Fits, LeastBits}
use Rattle.attained.specs.Attained.{Attained}

-- levels that are 0, but 1 at the listed positions
abbrev ones : List ℕ → List ℤ
ones [] = replicate 64 (pos 0)
ones (k ∷ ks) = set (ones ks) k (pos 1)

-- a block of such levels
abbrev pub block : List ℕ → List ℕ → List ℕ → Block
block ks steps lengths = block_of (ones ks) steps lengths

-- what a still of these blocks attains; of a block behind the last nothing is asked
abbrev pub Attainable : List Block → Pair → Type 0
Attainable blocks P = Attains (λ i. Attained (get_or blocks i (block [] [] []))) (length blocks) P

abbrev pub pair : ℕ → ℕ → Pair
pair n e = record { bits = n; error = e }

pub data Example : Type 0 where
  -- a choice is codable; its bits and its error
  takes : Block → List ℕ → ℕ → ℕ → Example
  -- at a price this choice is the best; its keep number
  keeps : Block → ℕ → ℕ → List ℕ → ℕ → Example
  -- no choice is codable
  uncodable : Block → Example
  -- a still's corners are these, in rising bits
  lists : List Block → List Pair → Example
  -- a pair is attainable and not a corner
  no_corner : List Block → Pair → Example
  -- a budget gives this corner
  fits : List Block → ℕ → Pair → Example
  -- a budget is below the least attainable bits, which are these
  none_fits : List Block → ℕ → ℕ → Example

abbrev pub Holds : Example → Type 0
Holds (takes B c n e) = CodableChoice B c × (bits B 0 c ≡ n) × (error B 0 c ≡ e)
Holds (keeps B a b c k) = Best B a b c × (keep_number c ≡ k)
Holds (uncodable B) = NoChoice B
Holds (lists blocks L) = CornerList (Attainable blocks) L
Holds (no_corner blocks P) = Attainable blocks P × ¬ Corner (Attainable blocks) P
Holds (fits blocks budget P) = Fits (Attainable blocks) budget P
Holds (none_fits blocks budget least) = LeastBits (Attainable blocks) least × (budget < least)

abbrev pub AllHold : List Example → Type 0
AllHold [] = Unit {0}
AllHold (x ∷ xs) = Holds x × AllHold xs
