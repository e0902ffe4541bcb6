-- `still::check_ac` meets its contract: the blocks passed have no bad level, and the first bad one of the next is told.
-- Assumes nothing.
use Rattle.std.proofs.Common.{◌≡◌, ℕ, ◌+◌, ◌*◌, ◌<◌, List, [], length, get_or, ℤ, sym, ap, ◌∙◌, ltb, arith}
use Rattle.still.specs.Passed.{levels_in, level_bad}
use Rattle.still.specs.Refusals.{bad_level, ac_check, at_place}
use Rattle.block.specs.Level.{ac_level}
use Rattle.still.proofs.First.{first_of_none, when_first_none}
use Rattle.still.proofs.Cut.{Whole, length-levels_in, levels_of-levels_in, block_passed, block_told}
use Rattle.still.proofs.Place.{ac_of}
use Rattle.still.proofs.check_ac.Goals as goal

-- the test of a level, in its block
in_block : (blocks : List (List ℤ)) → Whole blocks → (b : ℕ) → b < length blocks → (k : ℕ) → k < 64 → bad_level (levels_in blocks) (64 * b + k) ≡ level_bad (get_or blocks b []) k
unfolding bad_level level_bad
in_block blocks whole b l k h = ap (ltb 1023) (ac_of (levels_in blocks) b k h ∙ ap (λ (block : List ℤ). ac_level block k) (levels_of-levels_in blocks whole b l))

pub returns-in-Some : goal.returns-in-Some
unfolding ac_check
returns-in-Some c =
    let n = length-levels_in _ c.told-blocks in
    simp c.refuse_at.ensures (block_told c.loop-b.b (in_block _ c.told-blocks _ c.loop-b-test.true) c.loop-b.invariant _ 6 _ (sym c.in-Some.is ∙ c.first_bad_level.ensures) (omega arith))

pub loop-b-preserved : goal.loop-b-preserved
loop-b-preserved c = block_passed c.loop-b.b (in_block _ c.told-blocks _ c.loop-b-test.true) c.loop-b.invariant (sym c.in_default.is ∙ c.first_bad_level.ensures)

pub returns : goal.returns
unfolding ac_check
returns c =
    let n = length-levels_in _ c.told-blocks in
    when_first_none _ _ (at_place 6) (first_of_none _ _ (λ i h. c.loop-b.invariant i (omega arith)))
