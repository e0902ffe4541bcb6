-- `kept::kept` meets its contract: the sum of the keep numbers' ones is what they keep.
-- Assumes nothing.
use Rattle.std.proofs.Common.{◌≡◌, sum_by, sym, ◌∙◌, rules}
use Rattle.std.specs.Int.Count.{ones}
use Rattle.kept.proofs.Ones.{kept_of_sum}
use Rattle.kept.proofs.kept.Goals as goal

pub returns : goal.returns
returns c = let e : c.sum.result ≡ sum_by ones c.args.keep.now = search rules in e ∙ sym (kept_of_sum c.args.keep.now)
