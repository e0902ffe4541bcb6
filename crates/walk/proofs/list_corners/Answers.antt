-- Each turn lists one corner and goes on to the next, until the steepest way is flat.
-- Assumes nothing.
use Rattle.std.proofs.Common.{◌≡◌, refl, ap, sym, subst, ◌∙◌, ◌+◌, arith}
use Rattle.still.specs.declared.Still.{Still}
use Rattle.still.specs.Blocks.{count_of, block_in}
use Rattle.steepest.specs.declared.way.Way.{Way}
use Rattle.merge.specs.Standing.{steepest_of}
use Rattle.walk.specs.Written.{Walked}
use Rattle.walk.proofs.Going.{standing_most, more_bits}
use Rattle.walk.proofs.Listing.{lists_start, lists_leaving, lists_more, lists_end}
use Rattle.walk.proofs.list_corners.Goals as goal
use Rattle.walk.proofs.list_corners.Goals.{After-advance}

falls : (c : After-advance) → (steepest_of c.loop-count.course).fall ≡ 0 → ⊥
falls c e = c.if-steepest-eq0.false (ap (λ (w : Way). w.fall) c.steepest.ensures ∙ e)

pub loop-count-init : goal.loop-count-init
loop-count-init c = record { lists = lists_start c.requires; still = refl }

pub loop-count-preserved : goal.loop-count-preserved
loop-count-preserved c = record {
  lists = lists_more c.loop-count.invariant.lists c.enter.ensures (falls c) c.advance.ensures;
  still = c.advance.ensures.same.still ∙ c.loop-count.invariant.still;
}

pub loop-count-smaller : goal.loop-count-smaller
loop-count-smaller c = omega (
  arith,
  more_bits (lists_leaving c.loop-count.invariant.lists (falls c)) c.advance.ensures,
  standing_most c.advance.ensures.standing,
  ap count_of c.advance.ensures.same.still,
  ap count_of c.loop-count.invariant.still,
)

pub returns-then-steepest-eq0 : goal.returns-then-steepest-eq0
returns-then-steepest-eq0 c =
    subst (λ (s : Still). Walked (block_in s) (count_of s) c.args.out.now (c.loop-count.count + 1) c.enter.new.out) c.loop-count.invariant.still
    (lists_end c.loop-count.invariant.lists c.enter.ensures (ap (λ (w : Way). w.fall) (sym c.steepest.ensures) ∙ c.if-steepest-eq0.true))

pub overflow_add-count : goal.overflow_add-count
overflow_add-count c = omega (
  arith,
  c.loop-count.invariant.lists.few,
  standing_most c.loop-count.invariant.lists.standing,
  c.loop-count.course.search.still.sound.still.most,
)
