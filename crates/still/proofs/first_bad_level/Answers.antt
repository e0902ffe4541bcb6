-- `still::first_bad_level` meets its contract: the sweep says that no level is bad, or `find` which is the first.
-- Assumes nothing.
use Rattle.std.proofs.Common.{◌≡◌, ℕ, zero, suc, ◌≤◌, true, false, ltb, nat_abs, List, get_or, ℤ, pos, refl, ap, rules, tests, arith}
use Rattle.std.proofs.lemmas.Iterator.{first_from_Range}
use Rattle.still.specs.Passed.{Passed, level_bad}
use Rattle.still.proofs.Place.{ac_some}
use Rattle.still.proofs.First.{first_of_none, first_of_found}
use Rattle.still.proofs.first_bad_level.Goals as goal

-- a DC has no range
dc_good : (block : List ℤ) → Passed (level_bad block) 1
unfolding level_bad
dc_good block zero h = refl
dc_good block (suc k) h = absurd (omega arith)

ac_bad : (block : List ℤ) (k : ℕ) → 1 ≤ k → level_bad block k ≡ ltb 1023 (nat_abs (get_or block k (pos 0)))
unfolding level_bad
ac_bad block k h = ap (ltb 1023) (ac_some block k (λ e. omega arith))

pub returns-then-any_bad_level : goal.returns-then-any_bad_level
returns-then-any_bad_level c =
    let b = c.args.block.now in
    let test = λ (k : ℕ). ltb 1023 (nat_abs (get_or b k (pos 0))) in
    first_of_found (level_bad b) 64 1 test _ (dc_good b) (ac_bad b) (first_from_Range _ _ _ _ (λ k. test k ≡ true) (λ k. test k ≡ false) c.find.ensures.ran (λ x q k. search (rules, tests)) (λ x q k. search (rules, tests)))

pub returns : goal.returns
returns c = first_of_none _ _ (c.any_bad_level.ensures c.if-any_bad_level.false)
