-- `still::check_keep` meets its contract: the blocks passed have no bad bit, and the first bad one of the next is told.
-- Assumes nothing.
use Rattle.std.proofs.Common.{◌≡◌, ℕ, ◌+◌, ◌*◌, ◌<◌, List, [], length, get_or, min, ℤ, false, sym, ap, ◌∙◌, eqb, ◌&&◌, ◌/◌, ◌%◌, ◌^◌, ◌≤◌, zip, zero-add, inl, inr, arith}
use Rattle.std.proofs.lemmas.Bool.{cases_lt}
use Rattle.std.proofs.Math.Nat.{zero-div}
use Rattle.std.proofs.lemmas.List.{get_or_default, get_or_past, length_push}
use Rattle.std.proofs.lemmas.Slice.Zip.{length-zip, get_or-zip}
use Rattle.std.proofs.lemmas.List.FromFn.{get_or-enumerate_from, length-enumerate_from}
use Rattle.std.proofs.lemmas.Iterator.{YieldsList-from_slice, YieldsList-from_zip}
use Rattle.std.proofs.lemmas.Iterator.Consumers.{YieldsList-from_enumerate, YieldsList-at, YieldsList-turn, YieldsList-end}
use Rattle.std.specs.List.{enumerate_from}
use Rattle.still.specs.Passed.{first_of, levels_in, bit_bad}
use Rattle.still.specs.Refusals.{bit_at, bad_keep, keep_check, at_place}
use Rattle.block.specs.Level.{ac_level}
use Rattle.still.proofs.First.{first_of_none, when_first_none}
use Rattle.still.proofs.Cut.{Whole, length-levels_in, levels_of-levels_in, block_passed, block_told}
use Rattle.still.proofs.Place.{ac_of}
use Rattle.still.proofs.Bits.{bad_at}
use Rattle.still.proofs.check_keep.Goals as goal
use Rattle.still.proofs.check_keep.Goals.{After-first_bad_bit}

-- the test of a bit, in its block
in_block : (blocks : List (List ℤ)) → Whole blocks → (keep : List ℕ) (b : ℕ) → b < length blocks → (k : ℕ) → k < 64
    → bad_keep (levels_in blocks) keep (64 * b + k) ≡ bit_bad (get_or blocks b []) (get_or keep b 0) k
unfolding bit_bad
in_block blocks whole keep b l k h =
    bad_at (levels_in blocks) keep b k h
    ∙ ap (λ (n : ℕ). eqb (bit_at (get_or keep b 0) k) 1 && eqb n 0) (ac_of (levels_in blocks) b k h ∙ ap (λ (block : List ℤ). ac_level block k) (levels_of-levels_in blocks whole b l))

module _ (blocks : List (List ℤ)) (keep : List ℕ) where
  abbrev pairs : List (ℕ × (List ℤ × ℕ))
  pairs = enumerate_from 0 (zip blocks keep)

  length-pairs : length pairs ≡ min (length blocks) (length keep)
  length-pairs = length-enumerate_from 0 (zip blocks keep) ∙ length-zip blocks keep

  -- the block and the keep number at hand
  turned : (n b : ℕ) (block : List ℤ) (bits : ℕ) → (n < length pairs) × ((b, (block, bits)) ≡ get_or pairs n (b, (block, bits)))
      → (b ≡ n) × (n < length blocks) × (block ≡ get_or blocks n []) × (bits ≡ get_or keep n 0)
  turned n b block bits t =
      let l : n < min (length blocks) (length keep) = omega (arith, length-pairs, t.0) in
      let i : n < length (zip blocks keep) = omega (arith, length-zip blocks keep) in
      let e = t.1 ∙ get_or-enumerate_from 0 (zip blocks keep) n (b, (block, bits)) i ∙ ap (λ (p : List ℤ × ℕ). (0 + n, p)) (get_or-zip blocks keep n (block, bits) (omega arith) (omega arith)) in (
        ap (λ (p : ℕ × (List ℤ × ℕ)). p.0) e ∙ zero-add n,
        omega arith,
        ap (λ (p : ℕ × (List ℤ × ℕ)). p.1.0) e ∙ get_or_default blocks n block [] (omega arith),
        ap (λ (p : ℕ × (List ℤ × ℕ)). p.1.1) e ∙ get_or_default keep n bits 0 (omega arith),
      )

-- no bit is set behind the last keep number
none_behind : (levels : List ℤ) (keep : List ℕ) (i : ℕ) → 64 * length keep ≤ i → bad_keep levels keep i ≡ false
unfolding bad_keep
none_behind levels keep i h =
    let none = get_or_past keep (i / 64) 0 (omega arith) in let zeros : 0 / 2 ^ (i % 64) ≡ 0 = zero-div (2 ^ (i % 64)) in rw (none, zeros)

at_hand : (c : After-first_bad_bit)
    → (c.in-Some.b ≡ length c.loop-b.yielded) × (length c.loop-b.yielded < length c.args.blocks.now)
    × (c.first_bad_bit.result ≡ first_of (bit_bad (get_or c.args.blocks.now (length c.loop-b.yielded) []) (get_or c.args.keep.now (length c.loop-b.yielded) 0)) 64)
at_hand c =
    let road = YieldsList-from_enumerate (YieldsList-at c.enumerate-b-items.ensures.source (YieldsList-from_zip (YieldsList-from_slice c.args.blocks.now cc) (YieldsList-from_slice c.args.keep.now cc))) (cc) in
    let t = YieldsList-turn (YieldsList-at c.into_iter-b-iterator.ensures.into_iter_gives road) c.loop-b.yielded _ c.loop-b.yielded_by _ c.next.new.self _ c.in-Some.is c.next.ensures.steps in
    let q = turned c.args.blocks.now c.args.keep.now _ _ _ _ t in (q.0, q.1, rw (q.2, q.3) at c.first_bad_bit.ensures)

pub returns-in-Some-first_bad_bit : goal.returns-in-Some-first_bad_bit
unfolding keep_check
returns-in-Some-first_bad_bit c =
    let n = length-levels_in _ c.told-blocks in
    let q = at_hand (goal.at.returns-in-Some-first_bad_bit c).After-first_bad_bit in
    simp (c.refuse_at.ensures, q.0) (block_told _ (in_block _ c.told-blocks c.args.keep.now _ q.1) c.loop-b.invariant _ 10 _ (sym c.in-Some-first_bad_bit.is ∙ q.2) (omega arith))

pub loop-b-preserved : goal.loop-b-preserved
loop-b-preserved c =
    let q = at_hand (goal.at.loop-b-preserved c).After-first_bad_bit in
    simp length_push (block_passed _ (in_block _ c.told-blocks c.args.keep.now _ q.1) c.loop-b.invariant (sym c.in_default.is ∙ q.2))

pub returns : goal.returns
unfolding keep_check
returns c =
    let n = length-levels_in _ c.told-blocks in
    let road = YieldsList-from_enumerate (YieldsList-at c.enumerate-b-items.ensures.source (YieldsList-from_zip (YieldsList-from_slice c.args.blocks.now cc) (YieldsList-from_slice c.args.keep.now cc))) (cc) in
    let t = YieldsList-end (YieldsList-at c.into_iter-b-iterator.ensures.into_iter_gives road) c.loop-b.yielded _ c.loop-b.yielded_by _ c.next.new.self c.in-None.is c.next.ensures.steps in
    let ends : length c.loop-b.yielded ≡ min (length c.args.blocks.now) (length c.args.keep.now) = t.1 ∙ length-pairs c.args.blocks.now c.args.keep.now in
    when_first_none _ _ (at_place 10) (first_of_none _ _ (λ i h. elim (cases_lt i (64 * length c.loop-b.yielded)) [
      | inl l ↦ c.loop-b.invariant i l
      | inr l ↦ none_behind _ c.args.keep.now i (omega arith)
    ]))
