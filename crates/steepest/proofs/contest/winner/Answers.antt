-- `winner` meets its contract: who is below loses and does not win, and who is not wins.
use Rattle.std.proofs.Common.{length, refl}
use Rattle.std.proofs.lemmas.Option.{slice_get_read}
use Rattle.steepest.proofs.Wins.{wins_read, first_wins, second_wins}
use Rattle.steepest.proofs.contest.winner.Goals as goal

pub returns-then-is_below-clause-winner : goal.returns-then-is_below-clause-winner
returns-then-is_below-clause-winner g c =
    second_wins g.W.Contest.wins g.met.W.Contest.reflexive c.args.ways.now c.args.x c.args.y
    (wins_read g.W.Contest.wins c.args.ways.now c.args.y c.args.x _ _ c.index-ways-y.is c.index-ways-x.is c.if-is_below.ensures.0)

pub returns-then-is_below-clause-first : goal.returns-then-is_below-clause-first
returns-then-is_below-clause-first g c first_wins_too =
    let n = length c.args.ways.now in
    let is_x = slice_get_read c.args.ways.now n c.args.x c.index-ways-x.result refl c.requires.x_in c.index-ways-x.is in
    let is_y = slice_get_read c.args.ways.now n c.args.y c.index-ways-y.result refl c.requires.y_in c.index-ways-y.is in
    absurd (c.if-is_below.ensures.1 (first_wins_too c.index-ways-x.result c.index-ways-y.result is_x is_y))

pub returns-else-is_below-clause-winner : goal.returns-else-is_below-clause-winner
returns-else-is_below-clause-winner g c =
    first_wins g.W.Contest.wins g.met.W.Contest.reflexive c.args.ways.now c.args.x c.args.y
    (wins_read g.W.Contest.wins c.args.ways.now c.args.x c.args.y _ _ c.index-ways-x.is c.index-ways-y.is c.if-is_below.ensures)
