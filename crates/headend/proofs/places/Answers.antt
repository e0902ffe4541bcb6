-- `headend::places` meets its contract: the test says which case holds.
-- Assumes nothing.
use Rattle.std.proofs.Common.{sym, eq-eqb}
use borrow.Author.Tests.{ne_eqb}
use Rattle.headend.specs.HeadEnd.{places}
use Rattle.headend.proofs.places.Goals as goal

pub returns-then-bytes-n-clause-places : goal.returns-then-bytes-n-clause-places
unfolding places
returns-then-bytes-n-clause-places c = sym (simp (eq-eqb _ _ c.if-bytes-n.true))

pub returns-else-bytes-n-clause-places : goal.returns-else-bytes-n-clause-places
unfolding places
returns-else-bytes-n-clause-places c = sym (simp (ne_eqb _ _ c.if-bytes-n.false))
