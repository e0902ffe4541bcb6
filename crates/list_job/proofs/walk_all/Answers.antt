-- Where the blocks set out they are at the first corner.
-- Assumes nothing.
use Rattle.std.proofs.Common.{◌∙◌, subst}
use Rattle.still.specs.declared.Still.{Still}
use Rattle.still.specs.Blocks.{count_of, block_in}
use Rattle.walk.specs.Written.{Walked}
use Rattle.list_job.proofs.Finding.{at_first}
use Rattle.list_job.proofs.walk_all.Goals as goal

pub list_corners-requires : goal.list_corners-requires
list_corners-requires c = at_first (c.new-course.ensures ∙ c.new.ensures) c.requires c.set_out.ensures.set_out

pub returns : goal.returns
returns c =
    subst (λ (s : Still). Walked (block_in s) (count_of s) c.args.out.now c.list_corners.result c.list_corners.new.out)
    (c.set_out.ensures.set_out.still_is ∙ c.new-course.ensures ∙ c.new.ensures) c.list_corners.ensures
