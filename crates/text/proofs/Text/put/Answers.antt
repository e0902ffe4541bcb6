-- `text::Text::put` meets its contract: a copy into a part leaves the rest.
-- Assumes nothing.
use Rattle.std.proofs.Common.{rules, arith}
use Rattle.std.proofs.lemmas.Slice.{overwrites}
use Rattle.text.proofs.Text.put.Goals as goal

pub returns-clause-put : goal.returns-clause-put
returns-clause-put c = record {
  text = search (rules, overwrites);
  behind = search (rules, overwrites);
  room = search (rules, overwrites);
  grows = omega arith;
  short = omega arith;
}
