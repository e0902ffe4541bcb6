-- `search::gather::Block::gather` meets its contract: the places, and then their sizes and errors, are what a search asks for.
-- Assumes nothing.
use Rattle.search.proofs.Weighing.{gathered}
use Rattle.search.proofs.gather.Block.gather.Goals as goal

pub returns : goal.returns
returns c = gathered c.args.self.now.levels_fine.most c.args.self.now.steps_fine.most c.place-count.ensures c.weigh.ensures
