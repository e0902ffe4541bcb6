-- Which of the last levels of a block are cut before the search: no public contract speaks of it.
use Rattle.std.specs.Prelude.{◌≡◌, ℕ, ◌*◌, ◌≤◌, ◌<◌}
use Rattle.block.specs.Limits.{most_level_error}
use Rattle.forward.specs.declared.level.Gathered.{Gathered}
use Rattle.forward.specs.Given.{level_at}

-- what makes cutting sound, and which levels it cuts
pub record Cuttable (g : Gathered) : Type 0 where
  pub most : g.count ≤ 63
  pub error_most : (i : ℕ) → 0 < i → i ≤ g.count → (level_at g.levels i).drop ≤ most_level_error

pub record Cut (a least : ℕ) (g : Gathered) (r : ℕ) : Type 0 where
  pub most : r ≤ g.count
  pub inside : (i : ℕ) → r < i → i ≤ g.count → (level_at g.levels i).place ≡ 63 → ⊥
  pub poor : (i : ℕ) → r < i → i ≤ g.count → a * (level_at g.levels i).drop ≤ least
