-- `price::Price::new` meets its contract: the tests that led to each answer say which case of `outside` holds.
-- Assumes nothing.
use Rattle.std.proofs.lemmas.Bool.{le-ltb, lt-ltb}
use Rattle.price.specs.Price.{outside}
use Rattle.price.proofs.Price.new.Goals as goal
use Rattle.price.proofs.Price.new.Goals.{then-a-lt1-via-then-a-lt1, then-a-lt1-via-else-a-lt1+then-a-gt-MOST_ON_ERROR}

pub returns-then-a-lt1-clause-told : goal.returns-then-a-lt1-clause-told
unfolding outside
returns-then-a-lt1-clause-told c = elim c.then-a-lt1.branch [
  | then-a-lt1-via-then-a-lt1 w ↦ simp (lt-ltb _ _ w.if-a-lt1.true)
  | then-a-lt1-via-else-a-lt1+then-a-gt-MOST_ON_ERROR w ↦ simp (le-ltb _ _ w.if-a-lt1.false, lt-ltb _ _ w.if-a-gt-MOST_ON_ERROR.true)
]

pub returns-then-b-gt-MOST_ON_BITS-clause-told : goal.returns-then-b-gt-MOST_ON_BITS-clause-told
unfolding outside
returns-then-b-gt-MOST_ON_BITS-clause-told c =
    simp (le-ltb _ _ c.if-a-lt1.false, le-ltb _ _ c.if-a-gt-MOST_ON_ERROR.false, lt-ltb _ _ c.if-b-gt-MOST_ON_BITS.true)

pub returns-clause-told : goal.returns-clause-told
unfolding outside
returns-clause-told c =
    simp (le-ltb _ _ c.if-a-lt1.false, le-ltb _ _ c.if-a-gt-MOST_ON_ERROR.false, le-ltb _ _ c.if-b-gt-MOST_ON_BITS.false)
