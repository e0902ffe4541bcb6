-- The nodes below i are made, and those below `low` are beaten.
use Rattle.forward.specs.Given.{cut}
use Rattle.forward.specs.Scanning.{Filled, Beaten}
use Rattle.forward.proofs.nodes.Nodes.fill.Given as goal

abbrev pub invariant-loop-i : goal.invariant-loop-i
invariant-loop-i l = record {
  filled : Filled l.rates.price.a l.rates.price.b l.rates.table.now (cut l.block l.count) l.self l.i;
  beaten : Beaten l.rates.price.b l.rates.table.now.bits l.self l.low l.i;
}
