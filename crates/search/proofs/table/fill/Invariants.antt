use Rattle.search.specs.Tabling.{len_in, Filled}
use Rattle.search.proofs.table.fill.Given as goal

abbrev pub invariant-loop-size : goal.invariant-loop-size
invariant-loop-size l = Filled (len_in l.still) l.bits l.size 0

abbrev pub invariant-loop-run : goal.invariant-loop-run
invariant-loop-run l = Filled (len_in l.still) l.bits l.size l.run
