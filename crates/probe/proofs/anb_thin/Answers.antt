-- `probe::anb_thin` meets its contract: it tells what the thinning job said.
-- Assumes nothing.
use Rattle.std.proofs.Common.{◌∙◌, refl, rules}
use Rattle.answers.specs.Said.{said_kept}
use Rattle.probe.specs.Probe.{tells}
use Rattle.probe.proofs.Mapped.{mapped}
use Rattle.probe.proofs.anb_thin.Goals as goal

pub returns : goal.returns
returns c =
    tells c.if-answer-ne4.false _ c.thin-said.ensures
    (c.tell.ensures ∙ mapped said_kept (λ p. (p, 0, 0)) _ _ c.map.ensures.cases (λ x t l. search rules) (λ x. refl) (λ e. refl))
