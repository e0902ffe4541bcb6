-- Bytes put one behind the other are their lines joined, and what is put at the start is the text.
-- Assumes nothing.
use Rattle.std.proofs.Common.{◌≡◌, ℕ, zero, suc, ◌+◌, ◌-◌, ◌*◌, ◌/◌, ◌<◌, ◌≤◌, List, [], ◌∷◌, ◌++◌, length, take, drop, get_or, codes, refl, sym, ap, ◌∙◌, arith, add-one, add-zero, append-nil, append_assoc}
use Rattle.std.proofs.lemmas.List.{drop-drop, length-take, get_or-take, get_or-drop}
use Rattle.std.specs.Simd.{first_chunks}
use Rattle.text.specs.Text.{decimal, blank, newline, line, corner_lines, corners_text, refused_text, Holds}
use Rattle.text.specs.Put.{Put}

drop_on : (xs ys : List ℕ) (p r : ℕ) → p ≤ r → drop p xs ≡ drop p ys → drop r xs ≡ drop r ys
drop_on xs ys p r l e =
    let q : p + (r - p) ≡ r = omega arith in
    let x : drop (r - p) (drop p xs) ≡ drop (r - p) (drop p ys) = ap (λ (zs : List ℕ). drop (r - p) zs) e in
    rw (drop-drop (r - p) p xs, drop-drop (r - p) p ys, q) at x

pub joined : {m k : ℕ} {before s mid t after : List ℕ} {at p r : ℕ} → Put m before at s mid p → Put k mid p t after r
    → Put (m + k) before at (s ++ t) after r
joined {before = before} {s = s} {mid = mid} {t = t} {at = at} {p = p} {r = r} f g = record {
  text = g.text ∙ rw f.text (append_assoc _ s t);
  behind = g.behind ∙ drop_on mid before p r g.grows f.behind;
  room = g.room ∙ f.room;
  grows = omega arith;
  short = omega arith;
}

-- room for more than is wanted
pub looser : {m k : ℕ} {before : List ℕ} {at : ℕ} {more after : List ℕ} {r : ℕ} → m ≤ k → Put m before at more after r → Put k before at more after r
looser l f = record { text = f.text; behind = f.behind; room = f.room; grows = f.grows; short = omega arith }

pub three : {before one two after : List ℕ} {at p q r : ℕ} (x y z : ℕ) → Put 21 before at (decimal x ++ blank ∷ []) one p
    → Put 21 one p (decimal y ++ blank ∷ []) two q → Put 21 two q (decimal z ++ newline ∷ []) after r → Put 63 before at (line x y z) after r
unfolding line
three x y z f g h = simp append_assoc (simp append_assoc at (joined f (joined g h)))

-- what is put at the start
pub started : {m : ℕ} {before text after : List ℕ} {r : ℕ} → r ≤ length after → Put m before 0 text after r → Holds before text after r
started l f = record { within = l; front = f.text; behind = f.behind }

pub refusal_held : {m : ℕ} {before one after : List ℕ} {p r : ℕ} (x y z : ℕ) → r ≤ length after
    → Put m before 0 (codes "refused ") one p → Put 63 one p (line x y z) after r → Holds before (refused_text x y z) after r
unfolding refused_text
refusal_held x y z l f g = started l (joined f g)

pub corners_held : {m : ℕ} {before one two after : List ℕ} {p q r : ℕ} (n : ℕ) (list : List ℕ) → r ≤ length after
    → Put m before 0 (codes "corners ") one p → Put 21 one p (decimal n ++ newline ∷ []) two q
    → Put (63 * n) two q (corner_lines list n) after r → Holds before (corners_text n list) after r
unfolding corners_text
corners_held n list l f g h = started l (simp append_assoc at (joined f (joined g h)))

pub no_line : {before : List ℕ} {at : ℕ} (list : List ℕ) → Put 0 before at (corner_lines list 0) before at
unfolding corner_lines
no_line list = record { text = sym (append-nil _); behind = refl; room = refl; grows = omega arith; short = omega arith }

pub next_line : {before mid after : List ℕ} {at p r : ℕ} (list : List ℕ) (k : ℕ) → Put (63 * k) before at (corner_lines list k) mid p
    → Put 63 mid p (line (get_or list (3 * k) 0) (get_or list (3 * k + 1) 0) (get_or list (3 * k + 2) 0)) after r
    → Put (63 * (k + 1)) before at (corner_lines list (k + 1)) after r
unfolding corner_lines
next_line list k f g = rw add-one (looser (omega arith) (joined f g))

-- number j of corner k stands at 3 * k + j
number_at : (list : List ℕ) (n k j : ℕ) → k < n → j < 3 → get_or (get_or (first_chunks 3 n list) k []) j 0 ≡ get_or list (3 * k + j) 0
number_at list zero k j h l = absurd (omega arith)
number_at list (suc n) zero j h l = rw get_or-take (ap (λ i. get_or list i 0) (omega arith))
number_at list (suc n) (suc k) j h l = number_at (drop 3 list) n k j (omega arith) l ∙ get_or-drop 3 list (3 * k + j) 0 ∙ ap (λ i. get_or list i 0) (omega arith)

-- the line of corner k, of the first n out of all that the list has places for
pub corner_line : (list : List ℕ) (n : ℕ) {corners : List (List ℕ)} {k : ℕ} → corners ≡ first_chunks 3 (length list / 3) list → k < length (take n corners) → 3 * n ≤ length list
    → line (get_or (get_or (take n corners) k []) 0 0) (get_or (get_or (take n corners) k []) 1 0) (get_or (get_or (take n corners) k []) 2 0)
    ≡ line (get_or list (3 * k) 0) (get_or list (3 * k + 1) 0) (get_or list (3 * k + 2) 0)
corner_line list n {corners} {k} e h l =
    let m : k < n = omega (arith, length-take n corners) in
    let c : get_or (take n corners) k [] ≡ get_or (first_chunks 3 (length list / 3) list) k [] = rw (get_or-take n corners k [] m, e) in
    let at = λ (j : ℕ) (i : j < 3). number_at list (length list / 3) k j (omega arith) i in
    rw (c, at 0 (omega arith), at 1 (omega arith), at 2 (omega arith), add-zero)
