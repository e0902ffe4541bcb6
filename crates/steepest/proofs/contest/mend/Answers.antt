-- `mend` meets its contract: at the root no node is wrong. Each duel makes the node above right, and leaves fewer that may be wrong.
use Rattle.std.proofs.Common.{◌/◌, arith, get_or-set_same}
use Rattle.steepest.proofs.Mending.{own_leaf, mending_start, mending_step, mending_end}
use Rattle.steepest.proofs.contest.mend.Goals as goal

pub returns-clause-tournament : goal.returns-clause-tournament
returns-clause-tournament g c = mending_end c.loop-at.invariant.mending (omega arith) (omega arith)

pub loop-at-init : goal.loop-at-init
loop-at-init g c =
    let stale = c.requires.stale in
    let inside = stale.inside in
    record {
      some = omega arith;
      below = omega arith;
      best_is = own_leaf stale;
      mending = mending_start stale;
    }

pub loop-at-preserved : goal.loop-at-preserved
loop-at-preserved g c =
    let now = c.loop-at.invariant in
    let room = now.mending.room in
    record {
      some = omega arith;
      below = omega arith;
      best_is = get_or-set_same c.loop-at.seats (c.loop-at.at / 2) c.winner-best.result 0 (omega arith);
      mending = mending_step now.mending (omega arith) now.below (rw now.best_is c.winner-best.ensures.winner);
    }
