-- The best choice at a price has the pair that wins there, and the smallest keep number for it.
-- Assumes nothing.
use mathlib.Core.Path.{◌≡◌, refl, sym, ap, ◌∙◌}
use mathlib.Core.List.{List}
use Prim.Native.Nat.{ℕ, ◌≤◌}
use native.Mathlib.Nat.{le_antisymm}
use native.Mathlib.Decide.{dec_le}
use native.Mathlib.Omega.{arith}
use Rattle.block.specs.Block.{Block}
use Rattle.block.specs.Choice.{CodableChoice, bits, keep_number}
use Rattle.block.specs.Limits.{Limits, most_bits, most_error}
use Rattle.block.proofs.Bounds.{block_bits_most, block_error_most}
use Rattle.price.specs.Best.{way, Before, cheaper, shorter, smaller, Best}
use Rattle.price.proofs.Unique.{best_unique}
use Rattle.corners.specs.Pair.{Pair, cost}
use Rattle.corners.specs.Price.{Wins}
use Rattle.corners.proofs.Corners.{pair_path}
use Rattle.corners.proofs.Winner.{tie}
use Rattle.attained.specs.Attained.{pair_of, Attained, Gives, Smallest}

module _ (B : Block) where
  before_least : (a b : ℕ) (c o : List ℕ) → Before a b (way B c) (way B o) → cost a b (pair_of B c) ≤ cost a b (pair_of B o)
  before_least a b c o (cheaper p) = omega arith
  before_least a b c o (shorter p q) = omega arith
  before_least a b c o (smaller p q r) = omega arith

  before_fewest : (a b : ℕ) (c o : List ℕ) → Before a b (way B c) (way B o) → cost a b (pair_of B o) ≡ cost a b (pair_of B c) → bits B 0 c ≤ bits B 0 o
  before_fewest a b c o (cheaper p) e = absurd (omega arith)
  before_fewest a b c o (shorter p q) e = omega arith
  before_fewest a b c o (smaller p q r) e = omega arith

  before_keep : (a b : ℕ) (c o : List ℕ) → Before a b (way B c) (way B o) → pair_of B c ≡ pair_of B o → keep_number c ≤ keep_number o
  before_keep a b c o (cheaper p) e = absurd (omega (arith, ap (cost a b) e))
  before_keep a b c o (shorter p q) e = absurd (omega (arith, ap (λ (P : Pair). P.bits) e))
  before_keep a b c o (smaller p q r) e = r

  pub best_wins : {a b : ℕ} {c : List ℕ} → Best B a b c → Wins (Attained B) a b (pair_of B c)
  best_wins {a} {b} {c} h = record {
    attained = record { choice = c; codable = h.allowed; is = refl };
    least = λ X x. rw x.is (before_least a b c x.choice (h.least x.choice x.codable));
    fewest = λ X x e.
        let p = ap (cost a b) x.is in
        let q = ap (λ (P : Pair). P.bits) x.is in
        omega (arith, before_fewest a b c x.choice (h.least x.choice x.codable) (sym p ∙ e));
  }

  pub best_smallest : {a b : ℕ} {c : List ℕ} → Best B a b c → Smallest B (pair_of B c) (keep_number c)
  best_smallest {a} {b} {c} h = record {
    choice = c;
    codable = h.allowed;
    is = refl;
    keep_is = refl;
    least = λ o k e. before_keep a b c o (h.least o k) e;
  }

  -- what a price gives wins there, by the smallest keep number
  pub gives_wins : {a b : ℕ} {P : Pair} {k : ℕ} → Gives B a b P k → Wins (Attained B) a b P
  gives_wins g = rw g.is (best_wins g.best)

  pub gives_smallest : {a b : ℕ} {P : Pair} {k : ℕ} → Gives B a b P k → Smallest B P k
  gives_smallest g = rw (g.is, g.keep_is) (best_smallest g.best)

  -- and what wins by the smallest keep number is what the price gives
  pub wins_gives : {a b : ℕ} {P : Pair} {k : ℕ} → 1 ≤ a → Wins (Attained B) a b P → Smallest B P k → Gives B a b P k
  wins_gives {a} {b} {P} {k} h w s = record {
    choice = s.choice;
    best = record { allowed = s.codable; least = λ o c. before o c (dec_le (cost a b (pair_of B o)) (cost a b P)) };
    is = s.is;
    keep_is = s.keep_is;
  }
    where
      tied : (o : List ℕ) → CodableChoice B o → cost a b P ≡ cost a b (pair_of B o) → Dec (bits B 0 o ≤ P.bits) → Before a b (way B s.choice) (way B o)
      tied o c e (no m) = let p = ap (λ (X : Pair). X.bits) s.is in let q = ap (cost a b) s.is in shorter (omega (arith, e)) (omega (arith, m))
      tied o c e (yes m) =
          let p = ap (λ (X : Pair). X.bits) s.is in
          let q = ap (cost a b) s.is in
          let n : P.bits ≡ bits B 0 o = le_antisymm (w.fewest (pair_of B o) (record { choice = o; codable = c; is = refl }) (sym e)) m in
          smaller (omega (arith, e)) (omega (arith, n))
          (omega (arith, s.keep_is, s.least o c (tie a b (pair_of B o) P h n e)))

      before : (o : List ℕ) → CodableChoice B o → Dec (cost a b (pair_of B o) ≤ cost a b P) → Before a b (way B s.choice) (way B o)
      before o c (no l) = let q = ap (cost a b) s.is in cheaper (omega (arith, l))
      before o c (yes l) =
          let m = w.least (pair_of B o) (record { choice = o; codable = c; is = refl }) in
          tied o c (omega (arith, l, m)) (dec_le (bits B 0 o) P.bits)

  pub gives_unique : {a b : ℕ} {P Q : Pair} {k l : ℕ} → 1 ≤ a → Gives B a b P k → Gives B a b Q l → (P ≡ Q) × (k ≡ l)
  gives_unique {a} {b} {P} {Q} h g j =
      let s = best_unique B a b g.choice j.choice h g.best j.best in
      let p = ap (λ (X : Pair). X.bits) g.is in
      let q = ap (λ (X : Pair). X.error) g.is in
      let t = ap (λ (X : Pair). X.bits) j.is in
      let u = ap (λ (X : Pair). X.error) j.is in
      (pair_path P Q (p ∙ s.bit ∙ sym t) (q ∙ s.err ∙ sym u), g.keep_is ∙ s.keep ∙ sym j.keep_is)

  pub smallest_unique : {P : Pair} {k l : ℕ} → Smallest B P k → Smallest B P l → k ≡ l
  smallest_unique s t =
      le_antisymm (omega (arith, s.least t.choice t.codable t.is, t.keep_is))
      (omega (arith, t.least s.choice s.codable s.is, s.keep_is))

  module _ (limits : Limits B) where
    pub attained_bits : {P : Pair} → Attained B P → P.bits ≤ most_bits
    attained_bits x = omega (
      arith,
      ap (λ (P : Pair). P.bits) x.is,
      block_bits_most B limits x.choice x.codable.choice,
    )

    pub attained_error : {P : Pair} → Attained B P → P.error ≤ most_error
    attained_error x = omega (
      arith,
      ap (λ (P : Pair). P.error) x.is,
      block_error_most B limits x.choice x.codable.choice,
    )
