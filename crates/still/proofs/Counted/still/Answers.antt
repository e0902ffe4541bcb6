-- `still::Counted::still` meets its contract: a still that no check refuses is sound.
-- Assumes nothing.
use Rattle.std.proofs.Common.{sym, ap, ◌∙◌}
use Rattle.answers.specs.Said.{said_check}
use Rattle.still.proofs.Fine.{sound_fine}
use Rattle.still.proofs.Counted.still.Goals as goal

pub invariant_of-result : goal.invariant_of-result
invariant_of-result c =
    let s = c.args.self.now in
    record { sound = sound_fine _ _ _ s.counted (rw s.same at (sym c.check_ac.ensures ∙ ap said_check c.in_ok-check_ac.was)) }
