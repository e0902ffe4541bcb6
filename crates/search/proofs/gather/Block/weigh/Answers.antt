-- `search::gather::Block::weigh` meets its contract: sizes, errors and their sum are those of the places passed.
-- Assumes nothing.
use mathlib.Core.Path.{refl, ◌∙◌}
use native.Mathlib.Omega.{arith}
use Rattle.search.proofs.Reading.{level_is}
use Rattle.search.proofs.Weighing.{weighed_most, weighed_next}
use Rattle.search.proofs.gather.Block.weigh.Goals as goal

pub overflow_add-total : goal.overflow_add-total
overflow_add-total c =
    omega (
      arith,
      c.squared_error-drop.ensures.most,
      weighed_most c.args.self.now.levels_fine.most c.args.self.now.steps_fine.most c.requires c.loop-i.invariant (omega arith) (omega arith),
    )

pub loop-i-preserved : goal.loop-i-preserved
loop-i-preserved c =
    weighed_next c.args.self.now.levels_fine.most c.args.self.now.steps_fine.most c.requires c.loop-i.invariant _ (omega arith) (omega arith) refl
    (c.magnitude-n.ensures ∙ level_is c.args.self.now.levels_fine _ (omega (arith, c.loop-i.invariant.place_is c.loop-i.i, c.requires.rises 0 c.loop-i.i (omega arith) (omega arith))))
    c.size_of.ensures c.squared_error-drop.ensures.value
