-- The corners of what no check refuses are listed, and what one refuses is left.
-- Assumes nothing.
use Rattle.std.proofs.Common.{refl, sym}
use Rattle.list_job.specs.ListJob.{ListMeets.refuses, ListMeets.answers}
use Rattle.list_job.proofs.Finding.{said_err, lists_lent}
use Rattle.list_job.proofs.list.Goals as goal

pub returns-in_err-still : goal.returns-in_err-still
returns-in_err-still c = refuses _ _ _ (sym c.in_err-still.ensures.told) (said_err _ _ c.from_residual.ensures.1) refl

pub returns : goal.returns
returns c =
    let lent = c.in_ok-still.ensures.lent in
    answers (sym c.in_ok-still.ensures.told) (lists_lent c.in_ok-still.still lent.0 lent.1 lent.2 c.list_still.ensures)
