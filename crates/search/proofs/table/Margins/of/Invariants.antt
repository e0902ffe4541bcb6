use Rattle.search.specs.Tabling.{Swept}
use Rattle.search.proofs.table.Margins.of.Given as goal

abbrev pub invariant-loop-size : goal.invariant-loop-size
invariant-loop-size l = Swept l.bits l.margins l.size
