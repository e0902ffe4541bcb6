-- `still::check_levels` meets its contract: blocks that leave no rest are the levels.
-- Assumes nothing.
use Rattle.std.proofs.Common.{◌≡◌, ◌/◌, length, sym, ap, ◌∙◌, arith}
use Rattle.std.proofs.lemmas.Bool.{eqb-true}
use Rattle.still.specs.Passed.{levels_in}
use Rattle.still.proofs.Cut.{levels_in-chunks}
use Rattle.still.proofs.check_levels.Goals as goal

pub returns-clause-same : goal.returns-clause-same
returns-clause-same c =
    let none : length c.as_chunks.result.1.now ≡ 0 = eqb-true _ _ (sym c.is_empty.ensures ∙ c.if-not-is_empty.false) in
    ap levels_in c.as_chunks.ensures.front ∙ levels_in-chunks 64 (length c.args.levels.now / 64) c.args.levels.now (omega arith)
