use Rattle.winners.proofs.Adding.{Adding}
use Rattle.winners.proofs.together.Given as goal

abbrev pub invariant-loop-choice : goal.invariant-loop-choice
invariant-loop-choice l = Adding l.each l.point l.choice-index
