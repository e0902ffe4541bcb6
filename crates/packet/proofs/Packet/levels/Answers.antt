-- `packet::Packet::levels` meets its contract: a turn stores the next two levels.
-- Assumes nothing.
use mathlib.Core.Path.{◌≡◌, ap, ◌∙◌}
use Prim.Native.Nat.{◌+◌, ◌*◌, ◌<◌}
use native.Mathlib.Omega.{arith}
use Rattle.block.proofs.Level.{back}
use Rattle.packet.specs.Packet.{packed_blocks, twos_complement}
use Rattle.packet.proofs.Packed.{level-slice, levels_long}
use Rattle.packet.proofs.Filled.{stored, done}
use Rattle.packet.proofs.Packet.levels.Goals as goal

pub loop-i-preserved : goal.loop-i-preserved
loop-i-preserved c =
    let bytes = c.args.self.now.bytes.now in
    let i = c.loop-i.i in
    let k = 226 + 3 * i in
    let h : 2 * i + 1 < 64 * packed_blocks bytes = omega (arith, c.loop-i.invariant.long) in
    let next : 2 * (i + 1) ≡ 2 * i + 1 + 1 = omega arith in
    let one = stored (omega arith) c.loop-i.invariant (back (record { sfits = c.level_of.type_inv }) ∙ c.level_of.ensures ∙ ap twos_complement c.field.ensures.value ∙ level-slice bytes (2 * i) k _ 0 (omega arith) (omega arith) (omega arith)) in
    let two = stored h one (back (record { sfits = c.level_of-in-loop-i.type_inv }) ∙ c.level_of-in-loop-i.ensures ∙ ap twos_complement c.field-in-loop-i.ensures.value ∙ level-slice bytes (2 * i + 1) k _ 12 h (omega arith) (omega arith)) in
    rw next two

pub returns : goal.returns
returns c = done (omega arith) c.loop-i.invariant (levels_long c.args.self.now.bytes.now)
