-- A corner's three numbers are written where there is room for them.
-- Assumes nothing.
use mathlib.Core.Path.{◌≡◌, refl, sym, ap, ◌∙◌}
use mathlib.Core.List.{List, [], ◌∷◌, ◌++◌}
use lib.ListN.{length, get_or, set, length-append, length-set}
use lib.Seq.{get_or-set_same, get_or-set_other, take-append-le, take_all}
use Prim.Native.Nat.{ℕ, ◌+◌, ◌*◌, ◌≤◌, ◌<◌}
use native.Mathlib.Omega.{arith}
use native.Mathlib.Decide.{dec_le}
use borrow.Author.Count.{below_more}
use Rattle.block.specs.Block.{Block}
use Rattle.corners.specs.Pair.{Pair}
use Rattle.corners.specs.Listed.{entry, entries}
use Rattle.corners.proofs.Entries.{entries_set, entries_more}
use Rattle.answers.specs.declared.Point.{Point}
use Rattle.merge.specs.CornerChoice.{CornerKept}
use Rattle.walk.specs.Written.{Written}
use Rattle.walk.specs.Walking.{pair_of}

pub written_none : {B : ℕ → Block} {n : ℕ} {out : List ℕ} → Written B n [] out out
written_none = record {
  held = 0;
  some = omega arith;
  room = omega arith;
  full = λ h. absurd (omega arith);
  long = refl;
  pairs = refl;
  kept = λ k h. absurd (omega arith);
  behind = λ j h. refl;
}

module _ {B : ℕ → Block} {n : ℕ} {L : List Pair} {before after : List ℕ} (w : Written B n L before after) where
  more_long : (T : Pair) → length (L ++ (T ∷ [])) ≡ length L + 1
  more_long T = length-append L (T ∷ [])

  -- There is no room for one more.
  pub written_past : (T : Pair) → length after < 3 * length L + 3 → Written B n (L ++ (T ∷ [])) before after
  written_past T h = record {
    held = w.held;
    some = omega (arith, w.some, more_long T);
    room = w.room;
    full = λ l. full (dec_le (length L) w.held);
    long = w.long;
    pairs = w.pairs ∙ sym (take-append-le w.held L (T ∷ []) w.some);
    kept = w.kept;
    behind = w.behind;
  }
    where
      full : Dec (length L ≤ w.held) → length after < 3 * w.held + 3
      full (yes l) = omega arith
      full (no l) = w.full (omega arith)

  -- There is.
  module _ (p : Point) (fits : 3 * length L + 3 ≤ length after) (kept : CornerKept B n (pair_of p) p.kept) where
    all_held : w.held ≡ length L
    all_held = go (dec_le (length L) w.held)
      where
        go : Dec (length L ≤ w.held) → w.held ≡ length L
        go (yes l) = omega (arith, w.some)
        go (no l) = absurd (omega (arith, w.full (omega arith)))

    abbrev with_bits : List ℕ
    with_bits = set after (3 * length L) p.bits.0

    abbrev with_error : List ℕ
    with_error = set with_bits (3 * length L + 1) p.error.0

    abbrev with_kept : List ℕ
    with_kept = set with_error (3 * length L + 2) p.kept

    -- What the three stores leave.
    apart : (j : ℕ) → (j ≡ 3 * length L → ⊥) → (j ≡ 3 * length L + 1 → ⊥) → (j ≡ 3 * length L + 2 → ⊥) → get_or with_kept j 0 ≡ get_or after j 0
    apart j u v x = get_or-set_other with_error (3 * length L + 2) j _ 0 x
        ∙ get_or-set_other with_bits (3 * length L + 1) j _ 0 v ∙ get_or-set_other after (3 * length L) j _ 0 u

    earlier : (j : ℕ) → j < 3 * length L → get_or with_kept j 0 ≡ get_or after j 0
    earlier j l = apart j (λ e. omega arith) (λ e. omega arith) (λ e. omega arith)

    bits_there : get_or with_kept (3 * length L) 0 ≡ p.bits.0
    bits_there = get_or-set_other with_error (3 * length L + 2) (3 * length L) _ 0 (λ e. omega arith)
        ∙ get_or-set_other with_bits (3 * length L + 1) (3 * length L) _ 0 (λ e. omega arith) ∙ get_or-set_same after (3 * length L) _ 0 (omega arith)

    error_there : get_or with_kept (3 * length L + 1) 0 ≡ p.error.0
    error_there = get_or-set_other with_error (3 * length L + 2) (3 * length L + 1) _ 0 (λ e. omega arith)
        ∙ get_or-set_same with_bits (3 * length L + 1) _ 0 (simp length-set (omega arith))

    kept_there : get_or with_kept (3 * length L + 2) 0 ≡ p.kept
    kept_there = get_or-set_same with_error (3 * length L + 2) _ 0 (simp length-set (omega arith))

    still_entries : entries with_kept (length L) ≡ L
    still_entries =
        entries_set with_error (length L) (3 * length L + 2) _ (omega arith) ∙ entries_set with_bits (length L) (3 * length L + 1) _ (omega arith)
        ∙ entries_set after (length L) (3 * length L) _ (omega arith) ∙ ap (entries after) (sym all_held) ∙ w.pairs
        ∙ take_all w.held L (omega (arith, all_held))

    all_written : Written B n (L ++ (pair_of p ∷ [])) before with_kept
    all_written = record {
      held = length L + 1;
      some = omega (arith, more_long (pair_of p));
      room = simp length-set (omega arith);
      full = λ l. absurd (omega (arith, more_long (pair_of p)));
      long = simp length-set w.long;
      pairs = entries_more with_kept (length L) (pair_of p) bits_there error_there ∙ ap (λ (M : List Pair). M ++ (pair_of p ∷ [])) still_entries
          ∙ sym (take_all (length L + 1) (L ++ (pair_of p ∷ [])) (omega (arith, more_long (pair_of p))));
      kept = below_more (λ (k : ℕ). CornerKept B n (entry with_kept k) (get_or with_kept (3 * k + 2) 0)) (length L)
          (λ k l. rw (earlier (3 * k) (omega arith), earlier (3 * k + 1) (omega arith), earlier (3 * k + 2) (omega arith)) (w.kept k (omega (arith, all_held))))
          (rw (bits_there, error_there, kept_there) kept);
      behind = λ j l. apart j (λ e. omega arith) (λ e. omega arith) (λ e. omega arith) ∙ w.behind j (omega (arith, all_held));
    }

  pub written_more : {count : ℕ} → length L ≡ count → (p : Point) → 3 * count + 3 ≤ length after → CornerKept B n (pair_of p) p.kept
      → Written B n (L ++ (pair_of p ∷ [])) before (set (set (set after (3 * count) p.bits.0) (3 * count + 1) p.error.0) (3 * count + 2) p.kept)
  written_more {count} size p fits kept = rw (sym size) (all_written p (omega arith) kept)

  -- All are written where there is room for them.
  module _ (fits : 3 * length L ≤ length before) where
    whole : w.held ≡ length L
    whole = go (dec_le (length L) w.held)
      where
        go : Dec (length L ≤ w.held) → w.held ≡ length L
        go (yes l) = omega (arith, w.some)
        go (no l) = absurd (omega (arith, w.full (omega arith), w.long))

    pub all_pairs : entries after (length L) ≡ L
    all_pairs = ap (entries after) (sym whole) ∙ w.pairs ∙ take_all w.held L (omega (arith, whole))

    pub all_kept : (k : ℕ) → k < length L → CornerKept B n (entry after k) (get_or after (3 * k + 2) 0)
    all_kept k l = w.kept k (omega (arith, whole))

    pub all_behind : (j : ℕ) → 3 * length L ≤ j → get_or after j 0 ≡ get_or before j 0
    all_behind j l = w.behind j (omega (arith, whole))
