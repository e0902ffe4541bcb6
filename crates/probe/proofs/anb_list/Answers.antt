-- `probe::anb_list` meets its contract: it tells what the list job said.
-- Assumes nothing.
use Rattle.std.proofs.Common.{◌∙◌, refl, rules}
use Rattle.answers.specs.Said.{said_corners}
use Rattle.probe.specs.Probe.{tells}
use Rattle.probe.proofs.Mapped.{mapped}
use Rattle.probe.proofs.anb_list.Goals as goal

pub returns : goal.returns
returns c =
    tells c.if-answer-ne4.false _ c.list-said.ensures
    (c.tell.ensures ∙ mapped said_corners (λ p. (p, 0, 0)) _ _ c.map.ensures.cases (λ x t l. search rules) (λ x. refl) (λ e. refl))
