-- `thin_job::drop_levels` meets its contract: the blocks passed are thinned, and those to come are as they were.
-- Assumes nothing.
use Rattle.std.proofs.Common.{◌≡◌, ◌+◌, ◌*◌, arith}
use Rattle.thin_job.proofs.Bits.{block_stays}
use Rattle.thin_job.proofs.Thinning.{part_more, ended}
use Rattle.thin_job.proofs.drop_levels.Goals as goal

pub loop-b-preserved : goal.loop-b-preserved
loop-b-preserved c =
    let next : 64 * (c.loop-b.b + 1) ≡ 64 * c.loop-b.b + 64 = omega arith in
    rw next (part_more c.loop-b.invariant (omega arith) (omega (arith, c.requires)) c.thin_block.ensures (λ k h. block_stays c.args.keep.now _ k (omega arith)))

pub returns : goal.returns
returns c = ended c.loop-b.invariant (omega (arith, c.requires))
