-- `search::Search::best` meets its contract: the block that is gathered is the one that is decided.
-- Assumes nothing.
use Rattle.search.proofs.Search.best.Goals as goal

pub returns-clause-decides : goal.returns-clause-decides
returns-clause-decides c = rw (← c.gather.ensures.still) (c.look.ensures.decides c.args.i c.gather.ensures.holds)
