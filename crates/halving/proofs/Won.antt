-- A block's winner at a price with 1 on error: what a search gives there, or what wins at a higher price and at a lower one.
use Rattle.std.proofs.Common.{◌≡◌, Some, ℕ, refl, sym, subst, ◌∙◌, arith}
use Rattle.block.specs.Block.{Block}
use Rattle.corners.specs.Price.{Wins}
use Rattle.corners.proofs.Corners.{same_corner}
use Rattle.corners.proofs.Winner.{wins_corner}
use Rattle.corners.proofs.Halving.{alike}
use Rattle.forward.specs.declared.Chosen.{Chosen}
use Rattle.forward.specs.Decision.{Decides}
use Rattle.attained.specs.Attained.{Attained, Gives}
use Rattle.attained.specs.Chosen.{pair_in}
use Rattle.attained.proofs.Chosen.{best_gives}
use Rattle.attained.proofs.Winning.{gives_wins, gives_smallest}
use Rattle.halving.specs.Won.{Won, Between}

module _ {B : Block} {b : ℕ} {choice : Chosen} where
  pub gives_won : Gives B 1 b (pair_in choice) choice.keep → Won B b choice
  gives_won g = record { wins = gives_wins B g; smallest = gives_smallest B g }

  pub best_won : Decides B 1 b (Some choice) → Won B b choice
  best_won d = gives_won (best_gives (d.best choice refl))

  -- Winners with equal bits are one, and it wins between their prices.
  pub alike_won : {bits : ℕ} → Between B b choice bits → choice.bits.0 ≡ bits → Won B b choice
  alike_won t e =
      let s : t.cheap ≡ pair_in choice = same_corner (wins_corner (omega arith) t.cheap_wins) (wins_corner (omega arith) t.dear_won.wins) (t.cheap_bits ∙ sym e) in
      record {
        wins = alike (subst (Wins (Attained B) 1 t.low) s t.cheap_wins) t.dear_won.wins b t.below t.above;
        smallest = t.dear_won.smallest;
      }
