-- `halving::winner` meets its contract: winners with equal bits win between their prices too, and a search finds the others.
use Rattle.std.proofs.Common.{rules}
use Rattle.halving.proofs.Won.{alike_won, best_won}
use Rattle.halving.proofs.winner.Goals as goal

pub returns-then-eq-clause-won : goal.returns-then-eq-clause-won
returns-then-eq-clause-won c = alike_won c.requires.between (search rules)

pub returns-clause-won : goal.returns-clause-won
returns-clause-won c = best_won (rw c.unwrap.ensures at c.best.ensures.decides)
