-- Tests of a block over every codable choice of it, and what they show when they come out true.
-- Assumes nothing.
use mathlib.Core.Path.{◌≡◌, refl, ap₂}
use mathlib.Core.Logic.{inl, inr}
use mathlib.Core.Bool.{Bool, true, false}
use mathlib.Core.List.Memᴰ
use mathlib.Core.List.{List, [], ◌∷◌}
use Prim.Native.Nat.{ℕ}
use borrow.Author.Tests.{ltb-true, leb-true, eqb-true}
use lib.Dec.{ltb, leb, eqb}
use Rattle.block.specs.Block.{Block}
use Rattle.block.specs.Choice.{CodableChoice}
use Rattle.price.specs.Best.{Way, way, cost, Before, cheaper, shorter, smaller, Best, NoChoice}
use Rattle.examples.proofs.Truth.{both, either, both_is, either_is, never}
use Rattle.examples.proofs.Members.{all, all_at, any, any_is}
use Rattle.examples.proofs.Choices.{codables, codables_all, codables_only}

unfoldable pub same : List ℕ → List ℕ → Bool
same [] [] = true
same [] (l ∷ d) = false
same (k ∷ c) [] = false
same (k ∷ c) (l ∷ d) = both (eqb k l) (same c d)

same_by : (c d : List ℕ) → same c d ≡ true → c ≡ d
unfolding same
same_by [] [] t = refl
same_by [] (l ∷ d) t = absurd (never t)
same_by (k ∷ c) [] t = absurd (never t)
same_by (k ∷ c) (l ∷ d) t = ap₂ ◌∷◌ (eqb-true _ _ (both_is _ _ t).0) (same_by c d (both_is _ _ t).1)

abbrev beforeb : ℕ → ℕ → Way → Way → Bool
beforeb a b v w =
    either (ltb (cost a b v) (cost a b w))
    (both (eqb (cost a b v) (cost a b w)) (either (ltb v.bit w.bit) (both (eqb v.bit w.bit) (leb v.keep w.keep))))

before_by : (a b : ℕ) (v w : Way) → beforeb a b v w ≡ true → Before a b v w
before_by a b v w t = elim (either_is _ _ t) [
  | inl h ↦ cheaper (ltb-true _ _ h)
  | inr h ↦
      let e = eqb-true _ _ (both_is _ _ h).0 in
      elim (either_is _ _ (both_is _ _ h).1) [
        | inl k ↦ shorter e (ltb-true _ _ k)
        | inr k ↦ smaller e (eqb-true _ _ (both_is _ _ k).0) (leb-true _ _ (both_is _ _ k).1)
      ]
]

module _ (B : Block) where
  -- c is codable
  abbrev pub takesb : List ℕ → Bool
  takesb c = any (same c) (codables B)

  pub takes_by : (c : List ℕ) → takesb c ≡ true → CodableChoice B c
  takes_by c t = let u = any_is _ _ t in codables_only B (Memᴰ.cast (same_by c u.0 u.2) u.1)

  -- c is the best choice at the price (a, b)
  abbrev pub bestb : ℕ → ℕ → List ℕ → Bool
  bestb a b c = both (takesb c) (all (λ o. beforeb a b (way B c) (way B o)) (codables B))

  pub best_by : (a b : ℕ) (c : List ℕ) → bestb a b c ≡ true → Best B a b c
  best_by a b c t = record {
    allowed = takes_by c (both_is _ _ t).0;
    least = λ o h. before_by a b _ _ (all_at _ _ (both_is _ _ t).1 (codables_all B h));
  }

  -- no choice is codable
  abbrev pub noneb : Bool
  noneb = all (λ o. false) (codables B)

  pub none_by : noneb ≡ true → NoChoice B
  none_by t o h = never (all_at _ _ t (codables_all B h))
