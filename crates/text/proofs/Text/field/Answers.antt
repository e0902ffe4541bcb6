-- `text::Text::field` meets its contract: a number of 64 bits has at most 20 digits.
-- Assumes nothing.
use Rattle.std.proofs.Common.{arith, ap, ◌∙◌, length}
use Rattle.text.proofs.Number.{in_decimal}
use Rattle.text.proofs.Pieces.{joined, looser}
use Rattle.text.proofs.Text.field.Goals as goal

pub returns-clause-put : goal.returns-clause-put
returns-clause-put c =
    let e = c.as_bytes.ensures.value ∙ c.format.ensures.text ∙ in_decimal c.args.n (omega arith) in
    let p = looser {k = 20} (omega (arith, ap length c.as_bytes.ensures.value)) c.put.ensures.put in
    joined (rw e at p) c.push.ensures.put
