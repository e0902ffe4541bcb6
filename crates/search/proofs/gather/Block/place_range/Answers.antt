-- `search::gather::Block::place_range` meets its contract: the places of the levels passed that are not 0 stand in front.
-- Assumes nothing.
use mathlib.Core.Path.{refl}
use native.Mathlib.Omega.{arith}
use borrow.Author.Tests.{eqb-true, eqb-false, not-false, not-true}
use Rattle.search.proofs.Reading.{zero_level, other_level}
use Rattle.search.proofs.Placing.{placed_next}
use Rattle.search.proofs.gather.Block.place_range.Goals as goal

pub loop-k-preserved : goal.loop-k-preserved
loop-k-preserved c =
    rw c.from-n.ensures
    (placed_next c.loop-k.invariant (omega arith) _ refl _
    (λ e. zero_level c.args.self.now.levels_fine _ (eqb-true _ 0 (not-false _ e)))
    (λ e. other_level c.args.self.now.levels_fine _ (omega arith) (eqb-false _ 0 (not-true _ e))))
