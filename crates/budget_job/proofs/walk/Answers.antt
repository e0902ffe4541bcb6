-- `budget_job::walk` meets its contract: the course sets out from the high end for the low one, and ends at the last corner that fits.
use Rattle.std.proofs.Common.{◌∙◌, arith}
use Rattle.still.proofs.Blocks.{block_in_limits}
use Rattle.budget_job.proofs.Winning.{low_most}
use Rattle.budget_job.proofs.Setting.{bracket_ends, bracket_walks}
use Rattle.budget_job.proofs.Fitting.{course_fits_with}
use Rattle.budget_job.proofs.walk.Goals as goal

pub returns : goal.returns
returns c =
    course_fits_with c.walk_to.ensures.fits (c.walk_to.ensures.still ∙ c.set_out.ensures.set_out.still_is ∙ c.new-course.ensures) (omega arith)
    (λ i l. c.loop-i.invariant i (omega arith))

pub set_out-requires-clause-low_most : goal.set_out-requires-clause-low_most
set_out-requires-clause-low_most c = low_most (block_in_limits c.args.search.still) c.requires.brackets

pub set_out-requires-clause-ends : goal.set_out-requires-clause-ends
set_out-requires-clause-ends c =
    rw c.new-course.ensures (bracket_ends c.requires.brackets c.requires.room (omega arith) (omega arith))

pub walk_to-requires : goal.walk_to-requires
walk_to-requires c = bracket_walks c.requires.brackets c.requires.room (rw c.new-course.ensures at c.set_out.ensures.set_out)
