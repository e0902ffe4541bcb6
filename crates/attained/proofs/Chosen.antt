-- What a search answers is what the price gives, and it is never nothing for a block that has a corner.
-- Assumes nothing.
use Rattle.std.proofs.Common.{◌≡◌, refl, ℕ, Option, None, Some, IsSome}
use Rattle.block.specs.Block.{Block}
use Rattle.corners.specs.Pair.{Pair}
use Rattle.corners.specs.Corner.{Corner}
use Rattle.corners.proofs.Corners.{pair_path}
use Rattle.forward.specs.declared.Chosen.{Chosen}
use Rattle.forward.specs.Decision.{OfBest, Decides}
use Rattle.attained.specs.Attained.{Attained, Gives}
use Rattle.attained.specs.Chosen.{pair_in}

module _ {B : Block} {a b : ℕ} where
  pub best_gives : {p : Chosen} → OfBest B a b p → Gives B a b (pair_in p) p.keep
  best_gives o = record { choice = o.choice; best = o.best; is = pair_path _ _ o.bits_is o.error_is; keep_is = o.keep_is }

  pub answer_gives : {r : Option Chosen} {p : Chosen} → Decides B a b r → r ≡ Some p → Gives B a b (pair_in p) p.keep
  answer_gives {p = p} d e = best_gives (d.best p e)

  pub never_nothing : {C : Pair} {r : Option Chosen} → Corner (Attained B) C → Decides B a b r → IsSome r
  never_nothing {r = None} c d = absurd (d.nothing refl c.attained.choice c.attained.codable)
  never_nothing {r = Some p} c d = refl
