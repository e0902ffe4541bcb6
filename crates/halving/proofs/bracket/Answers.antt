-- `halving::bracket` meets its contract: each turn moves one end of the range inwards, on its side of the budget.
use Rattle.std.proofs.Common.{◌∙◌, sym, ap, arith}
use Rattle.answers.specs.declared.Point.{Point}
use Rattle.halving.proofs.Ends.{won_bits, end_taken}
use Rattle.halving.proofs.Narrowing.{high_moves, low_moves}
use Rattle.halving.proofs.bracket.Goals as goal

pub loop-low-preserved : goal.loop-low-preserved
loop-low-preserved c =
    let i = c.loop-low.invariant in
    let t = c.take_over-else-middle-budget.ensures in
    let d = c.decide_between.ensures in (
      cc,
      low_moves i.1 c.inside-price.ensures.0 c.inside-price.ensures.1 (t.price ∙ d.price) (end_taken t (rw (i.0, sym c.len-n.ensures) at d.decided))
          (omega (arith, ap (λ (p : Point). p.bits.0) t.point)),
      omega arith,
    )

pub loop-low-preserved-then-middle-budget : goal.loop-low-preserved-then-middle-budget
loop-low-preserved-then-middle-budget c =
    let i = c.loop-low.invariant in
    let t = c.take_over.ensures in
    let d = c.decide_between.ensures in (
      cc,
      high_moves i.1 c.inside-price.ensures.0 c.inside-price.ensures.1 (t.price ∙ d.price) (end_taken t (rw (i.0, sym c.len-n.ensures) at d.decided))
          (omega (arith, ap (λ (p : Point). p.bits.0) t.point)),
      omega arith,
    )

pub inside-price-requires-clause-chords : goal.inside-price-requires-clause-chords
inside-price-requires-clause-chords c = record {
  few = omega (arith, c.args.search.now.still.sound.still.most);
  bits_most = won_bits c.args.search.now.still (omega arith) c.loop-low.invariant.1.low_end.won;
}
