-- Which block of its still a search holds gathered.
use Rattle.std.specs.Prelude.{ℕ, ◌<◌}
use Rattle.forward.specs.Given.{Gathers}
use Rattle.still.specs.Blocks.{count_of, block_in}
use Rattle.search.specs.declared.Search.{Search}

pub record Holds (s : Search) (i : ℕ) : Type 0 where
  pub within : i < count_of s.still
  pub gathered : Gathers (block_in s.still i).size (block_in s.still i).drops s.gathered

pub record IsHolding (s : Search) : Type 0 where
  pub at : ℕ
  pub holds : Holds s at
