-- `headend::fit` meets its contract: the job runs on what the packet holds, and its keep numbers are stored where it has a point.
-- Assumes nothing.
use Rattle.std.proofs.Common.{arith}
use Rattle.std.proofs.lemmas.Result.{err_from_is_err_and}
use Rattle.headend.specs.HeadEnd.{PackedMeets}
use Rattle.headend.proofs.Told.{packet_refused, packed, job_refused, fitted, eight_each}
use Rattle.headend.proofs.fit.Goals as goal
use Rattle.headend.proofs.fit.Goals.{After-fit}

-- what the job meets of the packet
meets : (c : After-fit) → PackedMeets c.in_ok-packet.packet.bytes.now c.args.budget c.args.keep.now c.fit.result c.fit.new.keep
meets c = packed {most = 257} c.levels-levels.ensures c.steps.ensures c.lengths.ensures c.blocks-2.ensures.value c.places.ensures.places (omega arith) c.fit.ensures

pub returns-in_err-point : goal.returns-in_err-point
returns-in_err-point c =
    let p = err_from_is_err_and c.from_residual-in_err-point.result c.from_residual-in_err-point.ensures.1 in
    rw (p.1, p.2, ← c.in_ok-packet.ensures.same) (job_refused c.in_ok-packet.packet.well (meets (goal.at.returns-in_err-point c).After-fit) c.in_err-point.was)

pub store-requires : goal.store-requires
store-requires c = eight_each (meets (goal.at.store-requires c).After-fit) c.in_ok-point.was

pub returns : goal.returns
returns c = rw (← c.in_ok-packet.ensures.same) (fitted c.in_ok-packet.packet.well (meets (goal.at.returns c).After-fit) c.in_ok-point.was c.store.ensures)

pub returns-in_err-packet : goal.returns-in_err-packet
returns-in_err-packet c =
    let p = err_from_is_err_and c.from_residual.result c.from_residual.ensures.1 in
    rw (p.1, p.2) (packet_refused _ c.in_err-packet.ensures.told)
