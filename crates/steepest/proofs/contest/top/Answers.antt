-- `top` meets its contract: the root of a tournament wins over all.
use Rattle.steepest.proofs.Root.{root_top}
use Rattle.steepest.proofs.contest.top.Goals as goal

pub returns-clause-top : goal.returns-clause-top
returns-clause-top g c = root_top g.W.Contest.wins g.met.W.Contest.reflexive g.met.W.Contest.transitive c.args.ways.now c.args.seats.now
