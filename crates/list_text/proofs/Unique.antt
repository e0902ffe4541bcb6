-- The promise settles the text for a packet, and with it each of the lent bytes.
-- Assumes nothing.
use mathlib.Core.Path.{◌≡◌, sym, ap, ◌∙◌}
use mathlib.Core.List.{List, ◌++◌}
use Prim.Native.Nat.{ℕ}
use lib.ListN.{length, take, drop, take-append-drop}
use lib.Seq.{length-take-le}
use Rattle.list_job.proofs.Unique.{unique as list_unique}
use Rattle.text.specs.Text.{Holds}
use Rattle.list_text.specs.ListText.{Prints, refuses, tells, ListTextMeets}

pub text_unique : {packet t u : List ℕ} → Prints packet t → Prints packet u → t ≡ u
text_unique (refuses n d e v p) (refuses m f g w q) = cc
text_unique (refuses n d e v p) (tells w b k o q) = cc
text_unique (tells v a l m p) (refuses n d e w q) = cc
text_unique (tells v a l m p) (tells w b k o q) = let s = list_unique m o in cc

-- the place of the text's end is its length, and the bytes before and behind it are settled
holds_unique : {before text x y : List ℕ} {r s : ℕ} → Holds before text x r → Holds before text y s → (r ≡ s) × (x ≡ y)
holds_unique {before} {text} {x} {y} {r} {s} h g =
    let e : r ≡ s = sym (length-take-le r x h.within) ∙ ap length (h.front ∙ sym g.front) ∙ length-take-le s y g.within in
    let b : drop r x ≡ drop s y = h.behind ∙ ap (λ (k : ℕ). drop k before) e ∙ sym g.behind in
    let a : take r x ++ drop r x ≡ take s y ++ drop s y = cc in
    (e, sym (take-append-drop r x) ∙ a ∙ take-append-drop s y)

pub unique : {packet before x y : List ℕ} {r s : ℕ} → ListTextMeets packet before x r → ListTextMeets packet before y s → (r ≡ s) × (x ≡ y)
unique m o = let e = text_unique m.prints o.prints in holds_unique m.holds (rw (sym e) at o.holds)
