-- The places of the levels that are not 0: one more position is stored, and counted if its level is not 0; a range of zeros
-- has none.
-- Assumes nothing.
use mathlib.Core.Path.{◌≡◌, refl, ap, ◌∙◌}
use mathlib.Core.Bool.{Bool, true, false}
use mathlib.Core.List.{List}
use Prim.Native.Nat.{ℕ, ◌+◌, ◌≤◌, ◌<◌}
use native.Mathlib.Decide.{dec_lt}
use native.Mathlib.Omega.{arith}
use lib.ListN.{set, length-set}
use lib.Seq.{get_or-set_same, get_or-set_other}
use mir.Val.{bool_byte}
use Rattle.forward.specs.declared.level.Level.{Level}
use Rattle.forward.specs.Given.{level_at}
use Rattle.search.specs.Gathering.{IsPlace, Zeros, Placed}

module _ {level : ℕ → ℕ} where
  -- a level with place k is stored behind the m of the places below k
  module _ {levels : List Level} {m k : ℕ} (P : Placed level levels m k) (h : k < 64) (v : Level) (here : v.place ≡ k) where
    old : (i : ℕ) → i ≤ m → (level_at (set levels (m + 1) v) i).place ≡ (level_at levels i).place
    old i g = ap (λ (v : Level). v.place) (get_or-set_other levels (m + 1) i v (record { place = 0; size = 0; drop = 0 }) (λ e. omega arith))

    new : (i : ℕ) → i ≡ m + 1 → (level_at (set levels (m + 1) v) i).place ≡ k
    new i e = rw e (ap (λ (v : Level). v.place) (get_or-set_same levels (m + 1) v (record { place = 0; size = 0; drop = 0 }) (omega (arith, P.long, P.most))) ∙ here)

    met : (n x : ℕ) → m ≤ n → IsPlace levels m x → IsPlace (set levels (m + 1) v) n x
    met n x g e = record { at = e.at; low = e.low; high = omega (arith, e.high); is = old e.at e.high ∙ e.is }

    pub placed_next : (b : Bool) → (b ≡ false → level k ≡ 0) → (b ≡ true → 0 < level k) → Placed level (set levels (m + 1) v) (m + bool_byte b) (k + 1)
    placed_next false none some =
        record {
          long = length-set levels (m + 1) v ∙ P.long;
          most = omega (arith, P.most);
          start = old 0 (omega arith) ∙ P.start;
          rises = λ i j p q. omega (arith, old i (omega arith), old j (omega arith), P.rises i j p (omega arith));
          under = λ i p. omega (arith, old i (omega arith), P.under i (omega arith));
          held = λ i p q. rw (old i (omega arith)) (P.held i p (omega arith));
          every =
              λ x p q l. elim (dec_lt x k) [
                | yes g ↦ met (m + 0) x (omega arith) (P.every x p g l)
                | no g ↦ let e : x ≡ k = omega arith in absurd (omega (arith, ap level e, none refl))
              ];
        }
    placed_next true none some =
        record {
          long = length-set levels (m + 1) v ∙ P.long;
          most = omega (arith, P.most);
          start = old 0 (omega arith) ∙ P.start;
          rises =
              λ i j p q. elim (dec_lt m j) [
                | yes g ↦ omega (arith, old i (omega arith), P.under i (omega arith), new j (omega arith))
                | no g ↦ omega (arith, old i (omega arith), old j (omega arith), P.rises i j p (omega arith))
              ];
          under =
              λ i q. elim (dec_lt m i) [
                | yes g ↦ omega (arith, new i (omega arith))
                | no g ↦ omega (arith, old i (omega arith), P.under i (omega arith))
              ];
          held =
              λ i p q. elim (dec_lt m i) [
                | yes g ↦ rw (new i (omega arith)) (some refl)
                | no g ↦ rw (old i (omega arith)) (P.held i p (omega arith))
              ];
          every =
              λ x p q l. elim (dec_lt x k) [
                | yes g ↦ met (m + 1) x (omega arith) (P.every x p g l)
                | no g ↦ record { at = m + 1; low = omega arith; high = omega arith; is = omega (arith, new (m + 1) (omega arith)) }
              ];
        }

  -- no place is between k and n if the levels there are 0
  pub placed_zeros : {levels : List Level} {m k n : ℕ} → Placed level levels m k → Zeros level k n → k ≤ n → Placed level levels m n
  placed_zeros {k = k} P Z h =
      record {
        long = P.long;
        most = omega (arith, P.most);
        start = P.start;
        rises = P.rises;
        under = λ i p. omega (arith, P.under i p);
        held = P.held;
        every =
            λ x p q l. elim (dec_lt x k) [
              | yes g ↦ P.every x p g l
              | no g ↦ absurd (omega (arith, Z.each x (omega arith) q))
            ];
      }
