-- `text::put_corners` meets its contract: the first line and the corners' lines are the text.
-- Assumes nothing.
use Rattle.std.proofs.Common.{rules}
use Rattle.text.proofs.Pieces.{corners_held}
use Rattle.text.proofs.put_corners.Goals as goal

pub returns : goal.returns
returns c = corners_held _ _ (search rules) c.put.ensures.put c.field.ensures.put (search rules)
