use Prim.Native.Nat.{◌*◌}
use lib.IntN.{pos}
use Rattle.packet.specs.Packet.{packed_blocks, packed_levels}
use Rattle.packet.proofs.Filled.{Filled}
use Rattle.packet.proofs.Packet.levels.Given as goal

abbrev pub invariant-loop-i : goal.invariant-loop-i
invariant-loop-i l = Filled (pos 0) (packed_levels l.self.bytes.now) l.levels (64 * packed_blocks l.self.bytes.now) (2 * l.i)
