-- `packet::blocks` meets its contract: the byte is the field of eight bits.
-- Assumes nothing.
use Rattle.packet.proofs.Packed.{blocks_at}
use Rattle.packet.proofs.blocks.Goals as goal

pub returns-clause-value : goal.returns-clause-value
returns-clause-value c = blocks_at c.args.bytes.now c.type_inv.bytes
