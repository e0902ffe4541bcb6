-- `thin_job::thin` meets its contract: what no check refuses is thinned, and what one refuses is left.
-- Assumes nothing.
use Rattle.std.proofs.Common.{◌≡◌, ◌*◌, ◌≤◌, length, rules, refl, sym, ap, ◌∙◌, arith}
use Rattle.answers.specs.Said.{said_check}
use Rattle.still.proofs.Fine.{thin_verdict_fine}
use Rattle.thin_job.specs.ThinJob.{refuses}
use Rattle.thin_job.proofs.thin.Goals.{In_ok-check_thin}
use Rattle.thin_job.proofs.thin.Goals as goal

-- what no refusal leaves: the lengths
lengths : (c : In_ok-check_thin)
    → (length c.args.levels.now ≡ 64 * length c.args.keep.now) × (length c.args.keep.now ≤ 1024)
lengths c =
    let f = thin_verdict_fine c.args.levels.now c.args.keep.now (sym c.check_thin.ensures ∙ ap said_check c.in_ok-check_thin.was) in
    (omega (arith, f.0.count, f.1.count), omega (arith, f.0.most, f.1.count))

pub drop_levels-requires : goal.drop_levels-requires
drop_levels-requires c = (lengths (goal.at.drop_levels-requires c).In_ok-check_thin).0

pub kept-requires : goal.kept-requires
kept-requires c = (lengths (goal.at.kept-requires c).In_ok-check_thin).1

pub returns-in_err-check_thin : goal.returns-in_err-check_thin
returns-in_err-check_thin c = refuses _ _ _ (sym c.check_thin.ensures ∙ ap said_check c.in_err-check_thin.was) (search rules) refl
