-- `halving::End::decide` meets its contract: the first of its choices are the winners.
use Rattle.std.proofs.Common.{◌≡◌, length, rules}
use Rattle.still.specs.Blocks.{count_of}
use Rattle.winners.proofs.Told.{told_winners}
use Rattle.halving.proofs.Ends.{winners_end}
use Rattle.halving.proofs.End.decide.Goals as goal

pub returns-clause-decided : goal.returns-clause-decided
returns-clause-decided c =
    let w = told_winners c.in_ok-self.ensures.outcomes in
    let e : length c.winners.new.each ≡ count_of c.args.search.now.still = search rules in
    winners_end _ e w.0 w.1
