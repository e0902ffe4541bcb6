-- `block::size_of` meets its contract: what the leading zeros leave of 64 is the size.
-- Assumes nothing.
use Rattle.block.proofs.Size.{size_zeros}
use Rattle.block.proofs.size_of.Goals as goal

pub returns : goal.returns
returns c = size_zeros c.args.n c.requires
