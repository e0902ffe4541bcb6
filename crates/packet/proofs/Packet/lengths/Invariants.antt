use Rattle.packet.specs.Packet.{packed_lengths}
use Rattle.packet.proofs.Filled.{Filled}
use Rattle.packet.proofs.Packet.lengths.Given as goal

abbrev pub invariant-loop-i : goal.invariant-loop-i
invariant-loop-i l = Filled 0 (packed_lengths l.self.bytes.now) l.length-items 256 l.i
