use Rattle.std.proofs.Common.{ℕ, ◌+◌, ◌*◌, ◌<◌, ◌≤◌}
use Rattle.steepest.specs.Tournament.{IsNode}
use Rattle.steepest.proofs.contest.build.Given as goal

abbrev pub invariant-loop-i : goal.invariant-loop-i
invariant-loop-i g l = (j : ℕ) → l.n ≤ j → j < l.n + l.i → IsNode g.W.Contest.wins l.ways l.seats j

abbrev pub invariant-loop-k : goal.invariant-loop-k
invariant-loop-k g l = (j : ℕ) → l.k ≤ j → j < 2 * l.n → IsNode g.W.Contest.wins l.ways l.seats j
