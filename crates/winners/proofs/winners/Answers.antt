-- `winners::winners` meets its contract: a turn decides one block more, or its block is the first without a codable choice.
use Rattle.std.proofs.Common.{◌≡◌, arith, rules, refl}
use Rattle.still.specs.Blocks.{count_of}
use Rattle.winners.specs.Winners.{all, uncodable}
use Rattle.winners.proofs.Winning.{winners_more, first_uncodable, firsts_addable}
use Rattle.winners.proofs.Sums.{sums_taken}
use Rattle.winners.proofs.winners.Goals as goal

pub loop-i-preserved : goal.loop-i-preserved
loop-i-preserved c = (
  cc,
  winners_more c.loop-i.invariant.1 (omega arith)
      (rw (c.loop-i.invariant.0, c.in_ok-best.ensures.ok_part) at (c.best.ensures.decides)),
)

pub returns-in_err-best-clause-outcomes : goal.returns-in_err-best-clause-outcomes
returns-in_err-best-clause-outcomes c =
    uncodable _
    (first_uncodable c.loop-i.invariant.1 (omega arith)
    (rw (c.loop-i.invariant.0, c.in_err-best.ensures.ok_part) at (c.best.ensures.decides)))
    (search rules)

pub together-requires : goal.together-requires
together-requires c =
    let e : c.loop-i.i ≡ c.len-n.result = omega arith in
    firsts_addable c.args.search.now.still (omega arith) (omega arith) (rw e at c.loop-i.invariant.1)

pub returns-clause-outcomes : goal.returns-clause-outcomes
returns-clause-outcomes c =
    let e : c.loop-i.i ≡ count_of c.args.search.now.still = omega arith in
    let n : c.len-n.result ≡ count_of c.args.search.now.still = omega arith in
    all _ (rw e at c.loop-i.invariant.1) (rw n at (sums_taken c.loop-i.each c.len-n.result (omega arith) c.together.ensures)) refl
