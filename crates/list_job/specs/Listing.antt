-- For the private functions of the list job, and not for a reader of the promises.
use Rattle.std.specs.Prelude.{List}
use Rattle.corners.specs.Price.{Least}
use Rattle.corners.specs.Still.{total}
use Rattle.forward.specs.declared.Chosen.{Chosen}
use Rattle.attained.specs.Chosen.{pair_at}
use Rattle.still.specs.declared.Still.{Still}
use Rattle.still.specs.Blocks.{count_of}
use Rattle.merge.specs.SettingOut.{Ends}
use Rattle.walk.specs.Walking.{StillAttains}

-- The blocks may set out from the first choices for the last, and the first have the fewest bits together.
pub record AreEnds (s : Still) (first last : List Chosen) : Type 0 where
  pub ends : Ends s 0 first last
  pub least : Least (StillAttains s) 0 1 (total (pair_at first) (count_of s))
