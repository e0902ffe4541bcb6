-- `search::table::table_of` meets its contract: the margins stand where no run reaches.
-- Assumes nothing.
use Rattle.std.proofs.Common.{ℕ, arith}
use lib.ListN.{length-set}
use Rattle.search.proofs.Tabling.{made, made_most, made_unused, made_exact, full_is}
use Rattle.search.proofs.table.table_of.Goals as goal

pub invariant_of-result : goal.invariant_of-result
invariant_of-result c =
    record {
      most = made_most c.fill.ensures c.of-margins.ensures;
      full_is = full_is _ _ (omega (arith, c.fill.ensures.long, length-set {A = ℕ})) c.contains.ensures.cases;
    }

pub returns-clause-bits : goal.returns-clause-bits
returns-clause-bits c = made c.fill.ensures c.of-margins.ensures

pub returns-clause-unused : goal.returns-clause-unused
returns-clause-unused c = made_unused c.fill.ensures c.of-margins.ensures

pub returns-clause-margins : goal.returns-clause-margins
returns-clause-margins c = made_exact c.fill.ensures c.of-margins.ensures
