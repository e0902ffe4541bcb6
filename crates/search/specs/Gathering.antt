-- What the functions that gather a block promise each other: no public contract speaks of it.
use Rattle.std.specs.Prelude.{◌≡◌, List, ℕ, ◌-◌, ◌≤◌, ◌<◌, length}
use Rattle.block.specs.Block.{dropped}
use Rattle.block.specs.Level.{size_of, squared_error}
use Rattle.forward.specs.declared.level.Level.{Level}
use Rattle.forward.specs.Given.{level_at}

-- the levels from one position up to another are 0
pub record Zeros (level : ℕ → ℕ) (from to : ℕ) : Type 0 where
  pub each : (k : ℕ) → from ≤ k → k < to → level k ≡ 0

-- position k is the place of one of the first m levels
pub record IsPlace (levels : List Level) (m k : ℕ) : Type 0 where
  pub at : ℕ
  pub low : 0 < at
  pub high : at ≤ m
  pub is : (level_at levels at).place ≡ k

-- the first m levels have the places of those that are not 0, of those below position k
pub record Placed (level : ℕ → ℕ) (levels : List Level) (m k : ℕ) : Type 0 where
  pub long : length levels ≡ 64
  pub most : m < k
  pub start : (level_at levels 0).place ≡ 0
  pub rises : (i j : ℕ) → i < j → j ≤ m → (level_at levels i).place < (level_at levels j).place
  pub under : (i : ℕ) → i ≤ m → (level_at levels i).place < k
  pub held : (i : ℕ) → 0 < i → i ≤ m → 0 < level (level_at levels i).place
  pub every : (x : ℕ) → 0 < x → x < k → 0 < level x → IsPlace levels m x

-- the levels below i, placed as they were, have their sizes and errors too
pub record Weighed (level step : ℕ → ℕ) (was levels : List Level) (total i : ℕ) : Type 0 where
  pub long : length levels ≡ 64
  pub place_is : (j : ℕ) → (level_at levels j).place ≡ (level_at was j).place
  pub size_is : (j : ℕ) → j < i → 0 < j → (level_at levels j).size ≡ size_of (level (level_at was j).place)
  pub drop_is : (j : ℕ) → j < i → 0 < j → (level_at levels j).drop ≡ squared_error (level (level_at was j).place) (step (level_at was j).place)
  pub total_is : total ≡ dropped (λ k. squared_error (level k) (step k)) 1 (level_at was (i - 1)).place
