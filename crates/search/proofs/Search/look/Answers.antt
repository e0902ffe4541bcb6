-- `search::Search::look` meets its contract: the forward search decides every block that is held.
-- Assumes nothing.
use Rattle.search.proofs.Holding.{given}
use Rattle.search.proofs.Search.look.Goals as goal

pub search-requires : goal.search-requires
search-requires c = record { block = _; given = given c.requires.holds }

pub returns-clause-decides : goal.returns-clause-decides
returns-clause-decides c i h = c.search.ensures.decides _ (given h)
