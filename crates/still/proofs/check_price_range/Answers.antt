-- `still::check_price_range` meets its contract: what making the price answers is what the check says.
-- Assumes nothing.
use Rattle.std.proofs.Common.{rules, sym}
use Rattle.still.proofs.Ranges.{range_ok, range_err}
use Rattle.still.proofs.check_price_range.Goals as goal

pub returns-in_err-new-clause-told : goal.returns-in_err-new-clause-told
returns-in_err-new-clause-told c = rw (range_err _ _ c.new.ensures.told _ c.in_err-new.was) (search rules)

pub returns-clause-told : goal.returns-clause-told
returns-clause-told c = sym (range_ok _ _ c.new.ensures.told c.in_ok-new.was)
