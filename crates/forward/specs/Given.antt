-- What the forward search is given, the gathered levels of a block and the table of bits, and what it answers of them.
use Rattle.std.specs.Prelude.{◌≡◌, List, ℕ, ◌≤◌, ◌<◌, slice_index_or, Option}
use Rattle.block.specs.Block.{Block, dropped}
use Rattle.block.specs.Limits.{Limits}
use Rattle.forward.specs.declared.Chosen.{Chosen}
use Rattle.forward.specs.declared.level.Level.{Level}
use Rattle.forward.specs.declared.level.Gathered.{Gathered}
use Rattle.forward.specs.declared.table.Table.{Table}
use Rattle.forward.specs.Bits.{BitsOf}
use Rattle.forward.specs.Decision.{Decides}

-- level i of gathered levels
abbrev pub level_at : List Level → ℕ → Level
level_at levels i = slice_index_or levels i (record { place = 0; size = 0; drop = 0 })

-- the first n levels alone
abbrev pub cut : Gathered → ℕ → Gathered
cut g n = record { count = n; error = g.error; levels = g.levels }

-- position k is the place of one of the levels
pub record Met (g : Gathered) (k : ℕ) : Type 0 where
  pub at : ℕ
  pub low : 0 < at
  pub high : at ≤ g.count
  pub is : (level_at g.levels at).place ≡ k

-- The levels of a block that are not 0, from 1 on: their places, rising, their sizes and the errors of dropping them,
-- and the error of dropping them all. The start lies at position 0.
pub record Gathers (size drops : ℕ → ℕ) (g : Gathered) : Type 0 where
  pub most : g.count ≤ 63
  pub start : (level_at g.levels 0).place ≡ 0
  pub rises : (i j : ℕ) → i < j → j ≤ g.count → (level_at g.levels i).place < (level_at g.levels j).place
  pub under : (i : ℕ) → i ≤ g.count → (level_at g.levels i).place < 64
  pub sized : (i : ℕ) → 0 < i → i ≤ g.count → 0 < size (level_at g.levels i).place
  pub size_is : (i : ℕ) → 0 < i → i ≤ g.count → (level_at g.levels i).size ≡ size (level_at g.levels i).place
  pub error_is : (i : ℕ) → 0 < i → i ≤ g.count → (level_at g.levels i).drop ≡ drops (level_at g.levels i).place
  pub every : (k : ℕ) → 0 < k → k < 64 → 0 < size k → Met g k
  pub total_is : g.error.0 ≡ dropped drops 1 63

-- block B, gathered, with the table of its lengths
pub record Given (B : Block) (t : Table) (g : Gathered) : Type 0 where
  pub limits : Limits B
  pub plain : (k : ℕ) → B.keeps k ≡ 0
  pub gathered : Gathers B.size B.drops g
  pub table : BitsOf B.len t.bits

-- some block is given so
pub record Job (t : Table) (g : Gathered) : Type 0 where
  pub block : Block
  pub given : Given block t g

-- every block that is given so is decided
pub record Decided (a b : ℕ) (t : Table) (g : Gathered) (r : Option Chosen) : Type 0 where
  pub decides : (B : Block) → Given B t g → Decides B a b r
