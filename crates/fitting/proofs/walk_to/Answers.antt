-- `fitting::walk_to` meets its contract: it goes on while the next corner fits, and each one has more bits.
use Rattle.std.proofs.Common.{◌∙◌, arith}
use Rattle.fitting.proofs.Walking.{walk_leaves, walk_grows, walk_most, walk_stops, walk_more, walk_on}
use Rattle.fitting.proofs.walk_to.Goals as goal

pub returns-then-budget-next-clause-fits : goal.returns-then-budget-next-clause-fits
returns-then-budget-next-clause-fits c =
    let W = c.loop-budget.invariant.0 in
    walk_stops W (omega (arith, c.if-budget-next.true, walk_grows W c.steepest.ensures c.ways.ensures c.grows.ensures.value))

pub overflow_add-next : goal.overflow_add-next
overflow_add-next c = omega (arith, walk_most c.loop-budget.invariant.0, c.grows.ensures.most)

pub advance-requires : goal.advance-requires
advance-requires c = walk_leaves c.loop-budget.invariant.0

pub loop-budget-smaller : goal.loop-budget-smaller
loop-budget-smaller c =
    let W = c.loop-budget.invariant.0 in
    let fits = (walk_on W c.advance.ensures (omega (arith, c.if-budget-next.false, walk_grows W c.steepest.ensures c.ways.ensures c.grows.ensures.value))).within in
    omega (arith, fits, walk_more W c.advance.ensures)

pub loop-budget-preserved : goal.loop-budget-preserved
loop-budget-preserved c =
    let W = c.loop-budget.invariant.0 in (
      walk_on W c.advance.ensures (omega (arith, c.if-budget-next.false, walk_grows W c.steepest.ensures c.ways.ensures c.grows.ensures.value)),
      c.advance.ensures.same.still ∙ c.loop-budget.invariant.1,
    )
