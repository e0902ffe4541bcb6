-- One block sets out for its goal, and goes its way from corner to corner: what is known ahead, and the way on that is found.
-- Assumes nothing.
use Rattle.std.proofs.Common.{◌≡◌, ap, ℕ}
use Rattle.block.specs.Block.{Block}
use Rattle.attained.specs.Chosen.{pair_in, pair_at}
use Rattle.steepest.specs.declared.way.Way.{Way}
use Rattle.ways.specs.declared.Route.{Route}
use Rattle.ways.specs.Known.{corner_of}
use Rattle.merge.specs.Station.{Heads, Heads.arrived, Heads.going}
use Rattle.merge.specs.Going.{Found, Found.stop, Found.onward}

-- What is found leads to the farthest corner known, or the block is there.
pub heads_on : {B : Block} {low : ℕ} {r r' : Route} {w : Way} → (r.height ≡ 0 → corner_of r ≡ pair_at r.known 0) → Found B low r w r'
    → Heads B low (pair_at r.known 0) (record { route = r'; way = w })
heads_on {r = r} c (stop z e p q) = rw e (arrived (c z) p q z)
heads_on {r = r} c (onward f) =
    going (rw f.present (record { known = f.known; way = f.way; top = f.top })) (ap pair_in f.goal)

-- The present corner stays while the way on is found.
pub present_kept : {B : Block} {low : ℕ} {r r' : Route} {w : Way} → Found B low r w r' → r'.present ≡ r.present
present_kept (stop z e p q) = ap (λ (x : Route). x.present) e
present_kept (onward f) = f.present
