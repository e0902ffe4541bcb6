-- `still::any_bad_bit` meets its contract: the flag stays false only while no group passed has a bad bit.
-- Assumes nothing.
use Rattle.std.proofs.Common.{◌≡◌, ◌+◌, ◌*◌, sym, ◌∙◌, arith}
use Rattle.std.proofs.lemmas.Bool.{or_parts}
use Rattle.std.proofs.lemmas.Nat.{shr-shr}
use Rattle.still.proofs.First.{passed_more}
use Rattle.still.proofs.Bits.{eight_kept, no_bad_bit}
use Rattle.still.proofs.any_bad_bit.Goals as goal

pub loop-eight-preserved : goal.loop-eight-preserved
loop-eight-preserved c =
    let g = c.loop-eight.eight-index in
    let next : 8 * (g + 1) ≡ 8 * g + 8 = omega arith in (
      rw (c.loop-eight.invariant.0, next) (shr-shr c.args.keep (8 * g) 8),
      λ h.
          let p = or_parts _ _ h in
          let q = c.loop-eight.invariant.1 p.0 in (
            q.0,
            passed_more (8 * g) 8 (8 * (g + 1)) next q.1 (λ k l.
                sym (eight_kept _ c.args.keep _ g k (omega (arith, c.as_chunks.ensures.front_len)) l)
                ∙ rw (c.as_chunks.ensures.front, c.loop-eight.invariant.0) at (c.any_zero_kept-bad.ensures p.1 k l)),
          ),
    )

pub returns : goal.returns
returns c = λ h. let p = c.loop-eight.invariant.1 h in no_bad_bit _ _ p.0 (λ i l. p.1 i (omega arith))
