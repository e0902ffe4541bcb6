-- A corner has one choice, and so it keeps one number of coefficients.
-- Assumes nothing.
use mathlib.Core.Path.{◌≡◌, refl, sym, subst, ◌∙◌}
use Prim.Native.Nat.{ℕ, zero, suc, ◌<◌}
use native.Mathlib.Omega.{arith}
use Rattle.block.specs.Block.{Block}
use Rattle.corners.specs.Pair.{Pair}
use Rattle.corners.specs.Corner.{Corner}
use Rattle.corners.specs.Still.{Attains}
use Rattle.corners.proofs.OneWay.{one_way}
use Rattle.attained.specs.Attained.{Attained, Smallest}
use Rattle.attained.specs.Uncodable.{FirstUncodable}
use Rattle.attained.proofs.Winning.{smallest_unique}
use Rattle.kept.specs.Kept.{kept_to}
use Rattle.merge.specs.CornerChoice.{CornerChoice, CornerKept}

kept_same : (f g : ℕ → ℕ) (n : ℕ) → ((i : ℕ) → i < n → f i ≡ g i) → kept_to f n ≡ kept_to g n
kept_same f g zero h = refl
kept_same f g (suc n) h =
    let s = kept_same f g n (λ i l. h i (omega arith)) in
    let e = h n (omega arith) in
    cc

module _ {B : ℕ → Block} {n : ℕ} where
  abbrev pub choice_attains : {P : Pair} {keep : ℕ → ℕ} → CornerChoice B n P keep → Attains (λ i. Attained (B i)) n P
  choice_attains c = record {
    pick = c.pick;
    each = λ i l. let s = c.smallest i l in record { choice = s.choice; codable = s.codable; is = s.is };
    adds = c.adds;
  }

  pub choice_unique : {P : Pair} {keep other : ℕ → ℕ} → Corner (Attains (λ i. Attained (B i)) n) P → CornerChoice B n P keep → CornerChoice B n P other
      → (i : ℕ) → i < n → keep i ≡ other i
  choice_unique {other = other} k c d i l =
      smallest_unique (B i) (c.smallest i l)
      (subst (λ (X : Pair). Smallest (B i) X (other i)) (sym (one_way k (choice_attains c) (choice_attains d) i l)) (d.smallest i l))

  pub kept_unique : {P : Pair} {x y : ℕ} → Corner (Attains (λ i. Attained (B i)) n) P → CornerKept B n P x → CornerKept B n P y → x ≡ y
  kept_unique k c d = c.counts ∙ kept_same c.keep d.keep n (choice_unique k c.choice d.choice) ∙ sym d.counts

  -- some attainable pair: so every block has a choice
  pub attained_codable : {P : Pair} {i : ℕ} → Attains (λ i. Attained (B i)) n P → FirstUncodable B n i → ⊥
  attained_codable {i = i} x u = let a = x.each i u.within in u.none a.choice a.codable
