-- The best choices at the dearest price have the fewest bits together.
-- Assumes nothing.
use Rattle.std.proofs.Common.{◌∙◌}
use Rattle.list_job.proofs.Finding.{won_on, are_ends}
use Rattle.list_job.proofs.find_ends.Goals as goal

pub returns-clause-ends : goal.returns-clause-ends
returns-clause-ends c = are_ends (won_on c.new-search.ensures c.in_ok-winners.ensures.outcomes) (won_on (c.winners.ensures.still ∙ c.new-search.ensures) c.in_ok-winners-2.ensures.outcomes)
    (c.in_ok-winners.ensures.count ∙ c.requires.counts.0) (c.in_ok-winners-2.ensures.count ∙ c.requires.counts.1)
