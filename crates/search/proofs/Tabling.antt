-- The table of bits is filled entry by entry: what stands at the entries before stays.
-- Assumes nothing.
use mathlib.Core.Path.{◌≡◌, refl, sym, ◌∙◌}
use mathlib.Core.List.{List}
use mathlib.Core.Bool.{Bool, true, false, not}
use Prim.Native.Nat.{ℕ, ◌+◌, ◌-◌, ◌*◌, ◌≤◌, ◌<◌}
use native.Mathlib.Decide.{dec_lt, ℕ_discrete}
use native.Mathlib.Omega.{arith}
use borrow.Author.Count.{below_more}
use borrow.Author.Tests.{eq-eqb, ne_eqb, eqb-true, eqb-false}
use lib.Dec.{eqb}
use lib.ListN.{length, get_or, replicate, take, drop, length-set, set}
use lib.Seq.{get_or-set_same, get_or-set_other, get_or-append-add, get_or-drop}
use borrow.Author.Rules.{rules}
use borrow.Rule.Slice.PartMut.{put_mid}
use Rattle.std.specs.Prelude.{Option, None, Some, unwrap_or}
use Rattle.std.proofs.lemmas.List.{places, get_or-replicate, get_or_past, length-replicate}
use Rattle.std.specs.List.{IsAnyAnswer}
use Rattle.block.specs.First.{first_below}
use Rattle.block.specs.Block.{LevelCode, level_bits}
use Rattle.block.proofs.Bounds.{level_most}
use Rattle.block.proofs.First.{first_none, first_fails}
use Rattle.forward.specs.declared.table.TheConstants.{NO, LEAST, SAVED}
use Rattle.forward.specs.Bits.{Entry, Entry.some, Entry.none, BitsOf, misses, is_full}
use Rattle.search.specs.declared.table.Margins.{Margins}
use Rattle.search.specs.Tabling.{IsEntry, Filled, RowSwept, Swept, ExactMargins}

pub entry_of : {E : Type 0} {n : ℕ} (r : Option ℕ) → IsEntry E n r → Entry E n (unwrap_or r NO)
entry_of None h = none h refl
entry_of (Some m) h = some h.0 h.1

pub entry_most : {E : Type 0} {n x : ℕ} → n ≤ NO → Entry E n x → x ≤ NO
entry_most h (some e p) = omega arith
entry_most h (none e p) = omega arith

-- an end of block behind each position, over a table of 0, and then none behind position 63
pub filled_start : {len : ℕ → ℕ} → ((i : ℕ) → len i ≤ 16) → {x n : ℕ} {zeros ends : List ℕ}
    → Entry (0 < len 0) (len 0) x
    → n ≡ 704
    → zeros ≡ replicate n 0
    → ends ≡ replicate (length (take 64 zeros)) x
    → Filled len (set (put_mid 0 64 zeros ends) 0 0) 1 0
filled_start {len} most {x} {n} {zeros} {ends} e long all over =
    record {
      long = length-set bits 0 0 ∙ whole;
      most =
          λ y. elim (ℕ_discrete y 0) [
            | yes g ↦ rw (g, first) (omega arith)
            | no g ↦ rw (other y g) (elim (dec_lt y 64) [ yes l ↦ omega (arith, here y l, entry_most (omega (arith, most 0)) e) | no l ↦ omega (arith, behind y (omega arith)) ])
          ];
      last = first;
      ends = λ y p q. rw (other y (λ g. omega arith), here y q) e;
      levels = λ s r p q. absurd (omega arith);
      row = λ r p. absurd (omega arith);
      unused = λ s p q. rw (other (s * 64 + 63) (λ g. omega arith)) (behind (s * 64 + 63) (omega arith));
    }
  where
    bits : List ℕ
    bits = put_mid 0 64 zeros ends

    size : length zeros ≡ 704
    size = rw all (omega (arith, length-replicate {A = ℕ} n 0))

    inside : 64 ≤ length zeros
    inside = omega (arith, size)

    part : length (take 64 zeros) ≡ 64
    part = search (rules, places)

    row : length ends ≡ 64
    row = rw over (omega (arith, part, length-replicate (length (take 64 zeros)) x))

    whole : length (put_mid 0 64 zeros ends) ≡ 704
    whole = search (rules, places)

    here : (y : ℕ) → y < 64 → get_or (put_mid 0 64 zeros ends) y 0 ≡ x
    here y l =
        let now : get_or (put_mid 0 64 zeros ends) y 0 ≡ get_or ends y 0 = search (rules, places) in
        now ∙ rw over (get_or-replicate (length (take 64 zeros)) y x 0 (omega (arith, part)))

    behind : (y : ℕ) → 64 ≤ y → get_or (put_mid 0 64 zeros ends) y 0 ≡ 0
    behind y l =
        let at : length ends + (y - 64) ≡ y = omega (arith, row) in
        let same : 64 + (y - 64) ≡ y = omega arith in
        let was : get_or (put_mid 0 64 zeros ends) y 0 ≡ get_or zeros y 0 =
        rw (at, same) at (get_or-append-add ends (drop 64 zeros) (y - 64) 0 ∙ get_or-drop 64 zeros (y - 64) 0) in
        was ∙ elim (dec_lt y 704) [ yes g ↦ rw all (get_or-replicate n y 0 0 (omega arith)) | no g ↦ get_or_past zeros y 0 (omega (arith, size)) ]

    first : get_or (set bits 0 0) 0 0 ≡ 0
    first = get_or-set_same bits 0 0 0 (omega (arith, whole))

    other : (y : ℕ) → (y ≡ 0 → ⊥) → get_or (set bits 0 0) y 0 ≡ get_or bits y 0
    other y g = get_or-set_other bits 0 y 0 0 g

-- one more entry of a row
module _ {len : ℕ → ℕ} (most : (i : ℕ) → len i ≤ 16) {bits : List ℕ} {s r : ℕ} (f : Filled len bits s r) (low : 0 < s) (high : s ≤ 10) (under : r < 63) where
  pub filled_next : {x : ℕ} → Entry (LevelCode len r s) (level_bits len r s) x → Filled len (set bits (64 * s + r) x) s (r + 1)
  filled_next {x} e =
      record {
        long = length-set bits (64 * s + r) x ∙ f.long;
        most =
            λ y. elim (ℕ_discrete y (64 * s + r)) [
              | yes g ↦ rw (g, same) (entry_most (omega (arith, level_most len most r s high)) e)
              | no g ↦ rw (other y g) (f.most y)
            ];
        last = other 0 (λ g. omega arith) ∙ f.last;
        ends = λ y p q. rw (other y (λ g. omega arith)) (f.ends y p q);
        levels = λ t q p g h. rw (other (t * 64 + q) (λ z. omega arith)) (f.levels t q p g h);
        row =
            below_more _ r
            (λ q p. rw (other (s * 64 + q) (λ z. omega arith)) (f.row q p))
            (let g : s * 64 + r ≡ 64 * s + r = omega arith in rw (g, same) e);
        unused = λ t p q. rw (other (t * 64 + 63) (λ z. omega arith)) (f.unused t p q);
      }
    where
      same : get_or (set bits (64 * s + r) x) (64 * s + r) 0 ≡ x
      same = get_or-set_same bits (64 * s + r) x 0 (omega (arith, f.long))

      other : (y : ℕ) → (y ≡ 64 * s + r → ⊥) → get_or (set bits (64 * s + r) x) y 0 ≡ get_or bits y 0
      other y g = get_or-set_other bits (64 * s + r) y x 0 g

-- what holds at x - 1 and from x on holds from x - 1 on
pub from_last : (P : ℕ → Type 0) {x : ℕ} → 0 < x → P (x - 1) → ((y : ℕ) → x ≤ y → P y) → (y : ℕ) → x - 1 ≤ y → P y
from_last P {x} h p f y g = elim (dec_lt y x) [ yes l ↦ (let e : y ≡ x - 1 = omega arith in rw e p) | no l ↦ f y (omega arith) ]

-- one more size is swept
pub swept_next : {bits : List ℕ} {m n : Margins} {size : ℕ} → ((x : ℕ) → get_or bits x 0 ≤ NO) → 0 < size → Swept bits m size → RowSwept bits size m n → Swept bits n (size + 1)
swept_next {bits} {m} {n} {size} most low w f =
    record {
      least_most = omega (arith, f.less, w.least_most);
      saved_most = f.most w.saved_most;
      saved_under = λ some. omega (arith, fewest (NO - 1) (λ s r q p g h l. omega (arith, most (s * 64 + r), some s q p g l)));
      least =
          λ s r p q g. elim (ℕ_discrete s size) [
            | yes e ↦ rw e (f.least r g)
            | no e ↦ omega (arith, f.less, w.least s r p (omega arith) g)
          ];
      saved =
          λ s r q p g h l. elim (ℕ_discrete s size) [
            | yes e ↦ rw e (f.saved r q h l)
            | no e ↦ omega (arith, f.more, w.saved s r q p (omega arith) h l)
          ];
      greatest = λ k h g. f.greatest k (w.greatest k h (λ s r p q l. g s r p (omega arith) l)) (λ r l. g size r low (omega arith) l);
      fewest = fewest;
    }
  where
    fewest : (k : ℕ) → ((s r q : ℕ) → 0 < s → s < size + 1 → r < q → q < 63 → get_or bits (s * 64 + r) 0 ≤ get_or bits (s * 64 + q) 0 + k) → n.saved ≤ k
    fewest k h = f.fewest k (w.fewest k (λ s r q p g. h s r q p (omega arith))) (λ r q. h size r q low (omega arith))

-- a level has at least one bit
level_some : (len : ℕ → ℕ) (s r : ℕ) {x : ℕ} → 0 < s → Entry (LevelCode len r s) (level_bits len r s) x → 0 < x
level_some len s r h (some u v) = omega arith
level_some len s r h (none u v) = omega arith

-- the margins are stored where no run reaches
module _ {len : ℕ → ℕ} {bits : List ℕ} {m : Margins} (f : Filled len bits 11 0) (w : Swept bits m 11) where
  kept : (x : ℕ) → (x ≡ LEAST → ⊥) → (x ≡ SAVED → ⊥) → get_or (set (set bits LEAST m.least) SAVED m.saved) x 0 ≡ get_or bits x 0
  kept x h g = get_or-set_other (set bits LEAST m.least) SAVED x m.saved 0 g ∙ get_or-set_other bits LEAST x m.least 0 h

  least_is : get_or (set (set bits LEAST m.least) SAVED m.saved) LEAST 0 ≡ m.least
  least_is = get_or-set_other (set bits LEAST m.least) SAVED LEAST m.saved 0 (λ e. omega arith) ∙ get_or-set_same bits LEAST m.least 0 (omega (arith, f.long))

  saved_is : get_or (set (set bits LEAST m.least) SAVED m.saved) SAVED 0 ≡ m.saved
  saved_is = get_or-set_same (set bits LEAST m.least) SAVED m.saved 0 (omega (arith, f.long, length-set bits LEAST m.least))

  pub made_most : (x : ℕ) → get_or (set (set bits LEAST m.least) SAVED m.saved) x 0 ≤ NO
  made_most x =
      elim (ℕ_discrete x SAVED) [
        | yes e ↦ rw (e, saved_is) w.saved_most
        | no e ↦
            elim (ℕ_discrete x LEAST) [
              | yes g ↦ rw (g, least_is) (omega (arith, w.least_most))
              | no g ↦ omega (arith, get_or-set_other (set bits LEAST m.least) SAVED x m.saved 0 e, get_or-set_other bits LEAST x m.least 0 g, f.most x)
            ]
      ]

  pub made_unused : (s : ℕ) → 0 < s → s ≤ 10 → get_or (set (set bits LEAST m.least) SAVED m.saved) (s * 64 + 63) 0 < NO
  made_unused s p q =
      elim (ℕ_discrete (s * 64 + 63) SAVED) [
        | yes e ↦ rw (e, saved_is) (w.saved_under (λ t r g h l. level_some len t r g (f.levels t r g h l)))
        | no e ↦
            elim (ℕ_discrete (s * 64 + 63) LEAST) [
              | yes g ↦ rw (g, least_is) w.least_most
              | no g ↦ omega (arith, kept (s * 64 + 63) g e, f.unused s p q)
            ]
      ]

  pub made_exact : ExactMargins (set (set bits LEAST m.least) SAVED m.saved)
  made_exact =
      record {
        least = λ k h g. rw least_is (w.greatest k h (λ s r p q l. omega (arith, kept (s * 64 + r) (λ z. omega arith) (λ z. omega arith), g s r p (omega arith) l)));
        saved =
            λ k h. rw saved_is (w.fewest k (λ s r t p q g l. omega (arith, kept (s * 64 + r) (λ z. omega arith) (λ z. omega arith), kept (s * 64 + t) (λ z. omega arith) (λ z. omega arith), h s r t p (omega arith) g l)));
      }

  pub made : BitsOf len (set (set bits LEAST m.least) SAVED m.saved)
  made =
      record {
        levels = λ s r p q g. rw (kept (s * 64 + r) (λ z. omega arith) (λ z. omega arith)) (f.levels s r p (omega arith) g);
        ends =
            λ j h. elim (ℕ_discrete j 63) [
              | yes e ↦ rw (eq-eqb j 63 e) (some (λ g. absurd (omega arith)) (let z : 63 - j ≡ 0 = omega arith in rw (z, kept 0 (λ z. omega arith) (λ z. omega arith)) f.last))
              | no e ↦ rw (ne_eqb j 63 e, kept (63 - j) (λ z. omega arith) (λ z. omega arith)) (weaker (f.ends (63 - j) (omega arith) (omega arith)) (omega arith))
            ];
        least = λ s r p q g. omega (arith, least_is, kept (s * 64 + r) (λ z. omega arith) (λ z. omega arith), w.least s r p (omega arith) g);
        saved = λ s r t p q g h. omega (arith, saved_is, kept (s * 64 + r) (λ z. omega arith) (λ z. omega arith), kept (s * 64 + t) (λ z. omega arith) (λ z. omega arith), w.saved s r t p (omega arith) g h);
      }
    where
      weaker : {j x : ℕ} → Entry (0 < len 0) (len 0) x → j < 63 → Entry (j < 63 → 0 < len 0) (len 0) x
      weaker (some u v) h = some (λ g. u) v
      weaker (none u v) h = none (λ g. u (g h)) v

-- no code is missing where no entry is found that marks one
pub full_is : (r : Bool) (bits : List ℕ) → length bits ≡ 704 → IsAnyAnswer (λ x b. eqb x NO ≡ b) bits r → not r ≡ is_full bits
unfolding is_full misses
full_is true bits h a =
    sym (ne_eqb (first_below (misses bits) 704) 704
    (λ g. absurd (omega (arith, eqb-true (get_or bits a.0 0) NO (a.2 0), eqb-false (get_or bits a.0 0) NO (first_fails (misses bits) 704 a.0 (omega (arith, a.1)))))))
full_is false bits h a = sym (eq-eqb _ 704 (first_none (misses bits) 704 (λ k l. a k 0 (omega arith) (omega arith))))
