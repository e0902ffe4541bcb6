-- `search::gather::Block::place` meets its contract: a group of zeros has no place.
-- Assumes nothing.
use mathlib.Core.Path.{◌≡◌}
use Prim.Native.Nat.{◌+◌, ◌*◌}
use native.Mathlib.Omega.{arith}
use Rattle.search.proofs.Placing.{placed_zeros}
use Rattle.search.proofs.gather.Block.place.Goals as goal
use Rattle.search.proofs.gather.Block.place.Goals.{then-any_level, else-any_level}

pub loop-g-preserved : goal.loop-g-preserved
loop-g-preserved c =
    let next : 8 * (c.loop-g.g + 1) ≡ 8 * c.loop-g.g + 8 = omega arith in
    elim c.if-any_level.branch [
      | then-any_level w ↦ rw (next, w.levels-is, w.n-is) w.place_range-n-then-any_level.ensures
      | else-any_level w ↦ rw (next, w.levels-is, w.n-is) (placed_zeros c.loop-g.invariant (c.any_level.ensures w.if-any_level.false) (omega arith))
    ]
