-- The sizes and errors of the gathered levels: between two places nothing adds to the error of dropping all.
-- Assumes nothing.
use mathlib.Core.Path.{◌≡◌, refl, sym, ap, ◌∙◌}
use mathlib.Core.List.{List}
use Prim.Native.Nat.{ℕ, zero, suc, ◌+◌, ◌-◌, ◌≤◌, ◌<◌}
use native.Mathlib.Decide.{dec_lt, ℕ_discrete}
use native.Mathlib.Omega.{arith}
use borrow.Author.Count.{below_more}
use lib.ListN.{set, length-set}
use lib.Seq.{get_or-set_same, get_or-set_other}
use Rattle.block.specs.Block.{dropped}
use Rattle.block.specs.Level.{size_of, squared_error}
use Rattle.block.specs.Limits.{most_level_error, most_error}
use Rattle.block.proofs.Bounds.{dropped_join, dropped_none, dropped_most}
use Rattle.block.proofs.Limited.{error_level_most}
use Rattle.block.proofs.Size.{size_none, size_of_none}
use Rattle.forward.specs.declared.level.Level.{Level}
use Rattle.forward.specs.Given.{level_at, Gathers}
use Rattle.search.specs.Gathering.{IsPlace, Placed, Weighed}

-- a sum up to p, from that up to q, where nothing lies between
dropped_to : (d : ℕ → ℕ) (q p : ℕ) → q < p → ((x : ℕ) → q < x → x < p → d x ≡ 0) → dropped d 1 p ≡ dropped d 1 q + d p
dropped_to d q p h z =
    let e : p ≡ q + ((p - q - 1) + 1) = omega arith in
    let f : 1 + q + (p - q - 1) ≡ p = omega arith in
    omega (
      arith,
      ap (λ (x : ℕ). dropped d 1 x) e,
      dropped_join d 1 q ((p - q - 1) + 1),
      dropped_join d (1 + q) (p - q - 1) 1,
      ap (λ (x : ℕ). dropped d x 1) f,
      dropped_none d (1 + q) (p - q - 1) (λ x l g. z x (omega arith) (omega arith)),
    )

dropped_rest : (d : ℕ → ℕ) (q n : ℕ) → q ≤ n → ((x : ℕ) → q < x → x ≤ n → d x ≡ 0) → dropped d 1 n ≡ dropped d 1 q
dropped_rest d q n h z =
    let e : n ≡ q + (n - q) = omega arith in
    omega (arith, ap (λ (x : ℕ). dropped d 1 x) e, dropped_join d 1 q (n - q), dropped_none d (1 + q) (n - q) (λ x l g. z x (omega arith) (omega arith)))

none : (n : ℕ) → (0 < n → ⊥) → n ≡ 0
none zero h = refl
none (suc n) h = absurd (h (omega arith))

module _ {level step : ℕ → ℕ} (level_most : (k : ℕ) → level k ≤ 1023) (step-most : (k : ℕ) → step k ≤ 255) {was : List Level} {m : ℕ} (P : Placed level was m 64) where
  abbrev drops : ℕ → ℕ
  drops k = squared_error (level k) (step k)

  zero_drop : (x : ℕ) → level x ≡ 0 → drops x ≡ 0
  zero_drop x e = rw e (omega arith)

  -- places in order are those of levels in order
  lower : (i j : ℕ) → j ≤ m → i ≤ m → (level_at was i).place < (level_at was j).place → i < j
  lower i j p q h =
      elim (dec_lt i j) [
        | yes g ↦ g
        | no g ↦
            absurd
            (elim (dec_lt j i) [
              | yes f ↦ omega (arith, P.rises j i f q)
              | no f ↦ let e : i ≡ j = omega arith in omega (arith, ap (λ (x : ℕ). (level_at was x).place) e)
            ])
      ]

  between : (i x : ℕ) → i < m → (level_at was i).place < x → x < (level_at was (i + 1)).place → level x ≡ 0
  between i x h p q =
      none (level x) (λ l.
      let e : IsPlace was m x = P.every x (omega arith) (omega (arith, P.under (i + 1) (omega arith))) l in
      let u : i < e.at = lower i e.at e.high (omega arith) (omega (arith, e.is)) in
      let w : e.at < i + 1 = lower e.at (i + 1) (omega arith) e.high (omega (arith, e.is)) in
      omega arith)

  beyond : (x : ℕ) → (level_at was m).place < x → x < 64 → level x ≡ 0
  beyond x p q =
      none (level x) (λ l.
      let e : IsPlace was m x = P.every x (omega arith) q l in
      let u : m < e.at = lower m e.at e.high (omega arith) (omega (arith, e.is)) in
      omega (arith, e.high))

  module _ {levels : List Level} {total i : ℕ} (W : Weighed level step was levels total i) where
    pub weighed_most : 0 < i → i ≤ m + 1 → total ≤ most_error
    weighed_most h g =
        omega (
          arith,
          W.total_is,
          dropped_most drops most_level_error (λ k. error_level_most (level_most k) (step-most k)) 1 (level_at was (i - 1)).place,
          P.under (i - 1) (omega arith),
        )

    pub weighed_next : (v : Level) {n : ℕ} → 0 < i → i ≤ m → v.place ≡ (level_at levels i).place → n ≡ level (level_at levels i).place → v.size ≡ size_of n → v.drop ≡ squared_error n (step (level_at levels i).place)
        → Weighed level step was (set levels i v) (total + v.drop) (i + 1)
    weighed_next v {n} h g p a b c =
        record {
          long = length-set levels i v ∙ W.long;
          place_is =
              λ j. elim (ℕ_discrete j i) [
                | yes e ↦ rw (e, same) (p ∙ W.place_is i)
                | no e ↦ rw (other j e) (W.place_is j)
              ];
          size_is =
              below_more (λ (j : ℕ). 0 < j → (level_at (set levels i v) j).size ≡ size_of (level (level_at was j).place)) i
              (λ j q z. rw (other j (λ e. omega arith)) (W.size_is j q z))
              (λ z. rw same (b ∙ ap size_of (a ∙ ap level (W.place_is i))));
          drop_is =
              below_more (λ (j : ℕ). 0 < j → (level_at (set levels i v) j).drop ≡ drops (level_at was j).place) i
              (λ j q z. rw (other j (λ e. omega arith)) (W.drop_is j q z))
              (λ z. rw same here);
          total_is = omega (arith, W.total_is, here, sum_is, ap (λ (x : ℕ). dropped drops 1 (level_at was x).place) back);
        }
      where
        same : level_at (set levels i v) i ≡ v
        same = get_or-set_same levels i v (record { place = 0; size = 0; drop = 0 }) (omega (arith, W.long, P.most))

        other : (j : ℕ) → (j ≡ i → ⊥) → level_at (set levels i v) j ≡ level_at levels j
        other j e = get_or-set_other levels i j v (record { place = 0; size = 0; drop = 0 }) e

        here : v.drop ≡ drops (level_at was i).place
        here = rw (a, W.place_is i) at c

        back : i + 1 - 1 ≡ i
        back = omega arith

        up : i - 1 + 1 ≡ i
        up = omega arith

        sum_is : dropped drops 1 (level_at was i).place ≡ dropped drops 1 (level_at was (i - 1)).place + drops (level_at was i).place
        sum_is =
            dropped_to drops (level_at was (i - 1)).place (level_at was i).place (P.rises (i - 1) i (omega arith) g)
            (λ x p q. zero_drop x (between (i - 1) x (omega arith) p (rw up q)))

  -- what the search asks for
  pub gathered : {levels : List Level} {total : ℕ} → Weighed level step was levels total (m + 1) → Gathers (λ k. size_of (level k)) (λ k. squared_error (level k) (step k)) (record { count = m; error = record { 0 = total }; levels = levels })
  gathered {levels} W =
      record {
        most = omega (arith, P.most);
        start = W.place_is 0 ∙ P.start;
        rises = λ i j p q. omega (arith, W.place_is i, W.place_is j, P.rises i j p q);
        under = λ i p. omega (arith, W.place_is i, P.under i p);
        sized =
            λ i p q. elim (dec_lt 0 (size_of (level (level_at levels i).place))) [
              | yes g ↦ g
              | no g ↦ absurd (omega (arith, P.held i p q, ap level (W.place_is i), size_none (level (level_at levels i).place) (level_most (level_at levels i).place) (omega arith)))
            ];
        size_is = λ i p q. rw (W.place_is i) (W.size_is i (omega arith) p);
        error_is = λ i p q. rw (W.place_is i) (W.drop_is i (omega arith) p);
        every =
            λ k p q l. elim (dec_lt 0 (level k)) [
              | yes g ↦ (let e : IsPlace was m k = P.every k p q g in record { at = e.at; low = e.low; high = e.high; is = W.place_is e.at ∙ e.is })
              | no g ↦ let e : level k ≡ 0 = omega arith in absurd (omega (arith, size_of_none, ap size_of e))
            ];
        total_is =
            W.total_is ∙ ap (λ (x : ℕ). dropped drops 1 (level_at was x).place) back
            ∙ sym (dropped_rest drops (level_at was m).place 63 (omega (arith, P.under m (omega arith))) (λ x p q. zero_drop x (beyond x p (omega arith))));
      }
    where
      back : m + 1 - 1 ≡ m
      back = omega arith
