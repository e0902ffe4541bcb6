-- `thin_job::thin_block` meets its contract: the groups passed are thinned, and where no bit is left no other level stays.
-- Assumes nothing.
use Rattle.std.proofs.Common.{◌≡◌, ◌+◌, ◌*◌, sym, arith}
use Rattle.thin_job.proofs.Bits.{eight_stay, none_stay}
use Rattle.thin_job.proofs.Thinning.{filled, part_more, ended}
use Rattle.thin_job.proofs.thin_block.Goals as goal

pub returns-then-rest-eq0 : goal.returns-then-rest-eq0
returns-then-rest-eq0 c =
    let v = c.loop-g.invariant in
    let zeros = filled (c.fill.ensures.after (λ y e. e)) in
    ended (part_more v (omega arith) (omega (arith, v.count)) zeros (λ k h. sym (none_stay c.args.keep c.loop-g.g c.if-rest-eq0.true (8 * c.loop-g.g + k) (omega arith)))) (omega (arith, v.count))

pub loop-g-preserved : goal.loop-g-preserved
loop-g-preserved c =
    let next : 8 * (c.loop-g.g + 1) ≡ 8 * c.loop-g.g + 8 = omega arith in
    rw next (part_more c.loop-g.invariant (omega arith) (omega (arith, c.requires)) c.thin_eight.ensures (λ k h. eight_stay c.args.keep c.loop-g.g k (omega arith)))
