-- `packet::Packet::lengths` meets its contract: each field that is stored is the next length.
-- Assumes nothing.
use mathlib.Core.Path.{sym, ◌∙◌}
use Prim.Native.Nat.{◌<◌}
use native.Mathlib.Omega.{arith}
use Rattle.packet.proofs.Packed.{lengths_at_lem, lengths_long, blocks_least}
use Rattle.packet.proofs.Filled.{stored, done}
use Rattle.packet.proofs.Packet.lengths.Goals as goal

pub field-requires-clause-within : goal.field-requires-clause-within
field-requires-clause-within c = omega (arith, c.args.self.now.long, blocks_least c.args.self.now.bytes.now)

pub overflow_cast-length : goal.overflow_cast-length
overflow_cast-length c = omega (arith, c.field.ensures.below)

pub loop-i-preserved : goal.loop-i-preserved
loop-i-preserved c =
    let bytes = c.args.self.now.bytes.now in
    let i = c.loop-i.i in
    let h : i < 256 = omega arith in
    stored h c.loop-i.invariant (c.field.ensures.value ∙ sym (lengths_at_lem bytes i h))

pub returns : goal.returns
returns c = done (omega arith) c.loop-i.invariant (lengths_long c.args.self.now.bytes.now)
