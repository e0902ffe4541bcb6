-- What was read into the part behind the front stands there, and was consumed with it.
use Rattle.std.proofs.Common.{◌≡◌, ◌+◌, ◌-◌, ◌≤◌, ◌++◌, rules, length, take, drop, sym, ap, ◌∙◌, subst, le_refl, drop_at, length-take-le, ℕ, List}
use Rattle.std.proofs.lemmas.Slice.{take-put_mid_below}
use Rattle.std.specs.Io.KnownBytes.{Consumes}
use Rattle.std.proofs.KnownBytes.{Consumes-trans}
use borrow.Rule.Slice.PartMut.{put_mid, post_of}
use lib.Seq.{take-add, take-append-le}
use Rattle.input.proofs.read_full.Goals as goal

-- the front, and the first n bytes of the part behind it
grown : (a k n : ℕ) (xs ys : List ℕ) → a ≤ length xs → n ≤ length ys → take a xs ++ take n ys ≡ take (a + n) (put_mid a k xs ys)
grown a k n xs ys within fits =
    let front : take a (put_mid a k xs ys) ≡ take a xs = take-put_mid_below a k xs ys a (le_refl a) within in
    let behind : drop a (put_mid a k xs ys) ≡ ys ++ post_of a k xs = drop_at (take a xs) (ys ++ post_of a k xs) a (length-take-le a xs within) in
    sym (take-add a n (put_mid a k xs ys) ∙ rw (front, behind) (ap (λ l. take a xs ++ l) (take-append-le n ys (post_of a k xs) fits)))

pub loop-done-preserved : goal.loop-done-preserved
loop-done-preserved g c =
    let from = c.loop-done.done in
    let room = length c.loop-done.buf - from in
    let n = c.in_ok-n.n in
    record {
      within = search rules;
      bytes = subst (Consumes _ _) (grown from room n c.loop-done.buf c.read.new.buf c.loop-done.invariant.within c.in_ok-n.ensures.bound.0) (Consumes-trans _ _ _ _ _ c.loop-done.invariant.bytes c.in_ok-n.ensures.bytes.0);
    }
