-- `probe::anb_fit` meets its contract: it tells what the budget job said.
-- Assumes nothing.
use Rattle.std.proofs.Common.{◌∙◌, refl, rules}
use Rattle.answers.specs.Said.{said_point}
use Rattle.probe.specs.Probe.{tells}
use Rattle.probe.proofs.Mapped.{mapped}
use Rattle.probe.proofs.anb_fit.Goals as goal

pub returns : goal.returns
returns c =
    tells c.if-answer-ne4.false _ c.fit-said.ensures
    (c.tell.ensures ∙ mapped said_point (λ p. (p.bits.0, p.error.0, p.kept)) _ _ c.map.ensures.cases (λ x t l. search rules) (λ x. refl) (λ e. refl))
