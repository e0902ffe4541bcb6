-- `list_text::list_packed` meets its contract: the packet's own check comes first, and the list job runs on what it holds.
-- Assumes nothing.
use Rattle.std.proofs.Common.{ap, length}
use Rattle.std.proofs.lemmas.Result.{err_from_is_err_and}
use Rattle.list_text.proofs.Telling.{refused_prints, told_prints, places}
use Rattle.list_text.proofs.list_packed.Goals as goal

pub returns-clause-prints : goal.returns-clause-prints
returns-clause-prints c =
    let p = told_prints c.in_ok-packet.packet.well c.levels-levels.ensures c.steps.ensures c.lengths.ensures c.requires c.list.ensures in
    rw c.in_ok-packet.ensures.same at p

pub returns-clause-places : goal.returns-clause-places
returns-clause-places c = places c.list.ensures (ap length c.requires)

pub returns-in_err-packet-clause-prints : goal.returns-in_err-packet-clause-prints
returns-in_err-packet-clause-prints c =
    let p = err_from_is_err_and c.from_residual.result c.from_residual.ensures.1 in
    rw (p.1, p.2) (refused_prints c.args.list.now _ c.in_err-packet.ensures.told)
