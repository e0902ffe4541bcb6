-- `still::first_bad_bit` meets its contract: the sweep says that no bit is bad, or `find` which is the first.
-- Assumes nothing.
use Rattle.std.proofs.Common.{◌≡◌, true, false, refl, rules, tests, arith}
use Rattle.std.proofs.lemmas.Iterator.{first_from_Range}
use Rattle.still.specs.Passed.{bit_bad}
use Rattle.still.proofs.First.{first_of_none, first_of_found}
use Rattle.still.proofs.first_bad_bit.Goals as goal

pub returns-then-any_bad_bit : goal.returns-then-any_bad_bit
returns-then-any_bad_bit c =
    let bad = bit_bad c.args.block.now c.args.keep in
    first_of_found bad 64 0 bad _ (λ k h. absurd (omega arith)) (λ k h. refl) (first_from_Range _ _ _ _ (λ k. bad k ≡ true) (λ k. bad k ≡ false) c.find.ensures.ran (λ x q k. search (rules, tests)) (λ x q k. search (rules, tests)))

pub returns : goal.returns
returns c = first_of_none _ _ (c.any_bad_bit.ensures c.if-any_bad_bit.false)
