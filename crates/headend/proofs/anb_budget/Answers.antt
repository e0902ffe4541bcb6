-- `headend::anb_budget` meets its contract: the number of a refusal is its kind's.
-- Assumes nothing.
use Rattle.headend.proofs.anb_budget.Goals as goal

pub returns-in-Err : goal.returns-in-Err
returns-in-Err c = rw c.number.ensures c.in-Err.ensures
