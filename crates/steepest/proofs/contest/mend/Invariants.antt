use Rattle.std.proofs.Common.{◌≡◌, ◌*◌, ◌<◌, ◌≤◌, length, slice_index}
use Rattle.steepest.proofs.Mending.{Mending}
use Rattle.steepest.proofs.contest.mend.Given as goal

abbrev pub invariant-loop-at : goal.invariant-loop-at
invariant-loop-at g l = record {
  some : 1 ≤ l.at;
  below : l.at < 2 * length l.ways;
  best_is : slice_index l.seats l.at ≡ l.best;
  mending : Mending g.W.Contest.wins l.ways l.seats l.at;
}

abbrev pub decreases-loop-at : goal.decreases-loop-at
decreases-loop-at g l = l.at
