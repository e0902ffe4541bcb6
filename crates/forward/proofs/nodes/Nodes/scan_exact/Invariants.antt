-- The first by cost, bits and index of the nodes passed.
use Rattle.forward.specs.Scanning.{cost_by, bit_by, cost_from}
use Rattle.forward.proofs.Scanning.{Held}
use Rattle.forward.proofs.nodes.Nodes.scan_exact.Given as goal

abbrev pub invariant-loop-j : goal.invariant-loop-j
invariant-loop-j l = Held (cost_from l.target.from (cost_by l.rates l.target.at l.self)) (bit_by l.rates l.target.at l.self) l.first l.j
