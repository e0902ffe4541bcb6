-- `Course::advance` meets its contract: each turn moves one block whose way is as steep as the first, until none is left.
use Rattle.std.proofs.Common.{sym, arith}
use Rattle.merge.proofs.Pass.{parallel_too, may_go, pass_on, pass_more, pass_most, pass_end}
use Rattle.merge.proofs.Course.advance.Goals as goal

pub returns : goal.returns
returns c =
    pass_end c.loop-way.invariant
    (λ p. let parallel = c.is_parallel.ensures.1 (parallel_too (sym c.steepest.ensures) (sym c.steepest-way.ensures) p) in cc (parallel, c.loop-way-test.false))

pub go_on-requires : goal.go_on-requires
go_on-requires c = may_go c.loop-way.invariant (parallel_too c.steepest.ensures c.steepest-way.ensures (c.is_parallel.ensures.0 c.loop-way-test.true))

pub loop-way-smaller : goal.loop-way-smaller
loop-way-smaller c =
    let P = c.loop-way.invariant in
    let h = parallel_too c.steepest.ensures c.steepest-way.ensures (c.is_parallel.ensures.0 c.loop-way-test.true) in
    omega (arith, pass_more P h c.go_on.ensures, pass_most (pass_on P h c.go_on.ensures))

pub loop-way-preserved : goal.loop-way-preserved
loop-way-preserved c = pass_on c.loop-way.invariant (parallel_too c.steepest.ensures c.steepest-way.ensures (c.is_parallel.ensures.0 c.loop-way-test.true)) c.go_on.ensures
