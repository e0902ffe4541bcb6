-- A choice of the levels to keep: whether it can be coded, its bits, its error and its keep number.
use Rattle.std.specs.Prelude.{List, [], ◌∷◌, ℕ, ◌+◌, ◌-◌, ◌^◌, ◌<◌, eqb}
use Rattle.block.specs.First.{pick}
use Rattle.block.specs.Block.{Block, level_bits, LevelCode, dropped}

-- A choice is the list of the kept positions, rising. Each definition goes along it from the kept position before, j, which is 0 (DC) at first.
module _ (B : Block) where
  -- positions of levels that are not 0, after j
  abbrev pub Choice : ℕ → List ℕ → Type 0
  Choice j [] = Unit {0}
  Choice j (k ∷ c) = (j < k) × (k < 64) × (0 < B.size k) × Choice k c

  -- every code that is used exists; no end of block (entry 0) is used behind position 63
  abbrev pub Codable : ℕ → List ℕ → Type 0
  Codable j [] = j < 63 → 0 < B.len 0
  Codable j (k ∷ c) = LevelCode B.len (k - j - 1) (B.size k) × Codable k c

  abbrev pub bits : ℕ → List ℕ → ℕ
  bits j [] = pick (eqb j 63) 0 (B.len 0)
  bits j (k ∷ c) = level_bits B.len (k - j - 1) (B.size k) + bits k c

  abbrev pub error : ℕ → List ℕ → ℕ
  error j [] = dropped B.drops (j + 1) (63 - j)
  error j (k ∷ c) = dropped B.drops (j + 1) (k - j - 1) + B.keeps k + error k c

-- bit k is set when position k is kept
abbrev pub keep_number : List ℕ → ℕ
keep_number [] = 0
keep_number (k ∷ c) = 2 ^ k + keep_number c

-- a codable choice of the whole block
pub record CodableChoice (B : Block) (c : List ℕ) : Type 0 where
  pub choice : Choice B 0 c
  pub codable : Codable B 0 c
