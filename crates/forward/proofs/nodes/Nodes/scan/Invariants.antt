-- The first by cost alone of the nodes passed.
use Rattle.forward.specs.Scanning.{cost_by, cost_from}
use Rattle.forward.proofs.Scanning.{Scan}
use Rattle.forward.proofs.nodes.Nodes.scan.Given as goal

abbrev pub invariant-loop-j : goal.invariant-loop-j
invariant-loop-j g l = Scan (cost_from l.target.from (cost_by l.rates l.target.at l.self)) l.first l.j
