-- `text::Text::line` meets its contract: three fields joined are a line.
-- Assumes nothing.
use Rattle.text.proofs.Pieces.{three}
use Rattle.text.proofs.Text.line.Goals as goal

pub returns-clause-put : goal.returns-clause-put
returns-clause-put c = three _ _ _ c.field.ensures.put c.field-2.ensures.put c.field-3.ensures.put
