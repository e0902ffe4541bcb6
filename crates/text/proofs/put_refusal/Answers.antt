-- `text::put_refusal` meets its contract: the word and its line are the text.
-- Assumes nothing.
use Rattle.std.proofs.Common.{rules}
use Rattle.text.proofs.Pieces.{refusal_held}
use Rattle.text.proofs.put_refusal.Goals as goal

pub returns : goal.returns
returns c = refusal_held _ _ _ (search rules) c.put.ensures.put (search rules)
