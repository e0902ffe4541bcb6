use Rattle.std.proofs.Common.{◌≡◌, ℕ, ◌<◌, get_or}
use Rattle.attained.specs.Chosen.{chosen_at}
use Rattle.winners.proofs.store.Given as goal

abbrev pub invariant-loop-i : goal.invariant-loop-i
invariant-loop-i l = (k : ℕ) → k < l.i → get_or l.keep k 0 ≡ (chosen_at l.each k).keep
