-- `halving::End::decide_between` meets its contract: each turn stores the winner of one block more.
use Rattle.std.proofs.Common.{◌≡◌, ◌≤◌, length, arith}
use lib.ListN.{length-set}
use Rattle.still.specs.Blocks.{count_of}
use Rattle.winners.proofs.Sums.{sums_taken}
use Rattle.halving.proofs.Ends.{won_more, won_addable}
use Rattle.halving.proofs.End.decide_between.Goals as goal

pub loop-i-preserved : goal.loop-i-preserved
loop-i-preserved c =
    let i = c.loop-i.invariant in (
      cc,
      won_more i.1 (omega (arith, c.args.search.now.still.sound.still.most)) (rw i.0 at c.winner.ensures.won),
      i.2,
      simp length-set i.3,
    )

pub together-self-requires : goal.together-self-requires
together-self-requires c =
    let i = c.loop-i.invariant in
    let e : c.loop-i.i ≡ c.len-n.result = omega arith in
    won_addable c.args.search.now.still (omega (arith, c.args.search.now.still.sound.still.most)) c.len-n.ensures (rw e at i.1)

pub returns-clause-decided : goal.returns-clause-decided
returns-clause-decided c =
    let i = c.loop-i.invariant in
    let e : c.loop-i.i ≡ count_of c.args.search.now.still = omega arith in
    let l : c.len-n.result ≤ length c.loop-i.self.each = omega (arith, c.args.search.now.still.sound.still.most) in
    record {
      won = rw i.2 (rw e at i.1);
      sums = rw c.len-n.ensures at (sums_taken c.loop-i.self.each c.len-n.result l c.together-self.ensures);
    }
