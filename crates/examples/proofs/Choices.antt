-- Every codable choice of a block, as a list that antt computes.
-- Assumes nothing.
use mathlib.Core.Path.{◌≡◌, refl, sym, subst}
use mathlib.Core.Logic.{inl, inr}
use mathlib.Core.Bool.{Bool, true}
use mathlib.Core.List.Memᴰ
use mathlib.Core.List.{List, [], ◌∷◌, ◌++◌, map, Memᴰ}
use Prim.Native.Nat.{ℕ, zero, suc, ◌+◌, ◌-◌, ◌≤◌, ◌<◌}
use native.Mathlib.Nat.{eq-or-lt_of_le}
use native.Mathlib.Omega.{arith}
use borrow.Author.Tests.{ltb-true, ltb-false, leb-true, leb-false, lt-ltb}
use lib.Dec.{ltb, leb}
use Rattle.block.specs.First.{pick}
use Rattle.block.specs.Block.{Block, entry, LevelCode}
use Rattle.block.specs.Choice.{Choice, Codable, CodableChoice}
use Rattle.examples.proofs.Truth.{both, either, both_is, is_both, either_is, is_either}
use Rattle.examples.proofs.Members.{in_picked}

module _ (B : Block) where
  -- the end of a choice whose last kept position is j can be coded
  abbrev endb : ℕ → Bool
  endb j = either (leb 63 j) (ltb 0 (B.len 0))

  -- position k can be kept next after j
  abbrev levelb : ℕ → ℕ → Bool
  levelb j k =
      let r = k - j - 1 in
      both (ltb 0 (B.size k)) (both (ltb 0 (B.len (entry r (B.size k)))) (either (ltb r 16) (ltb 0 (B.len 240))))

  -- the codable choices of the f positions from k on, where j is the kept position before
  unfoldable pub codes : ℕ → ℕ → ℕ → List (List ℕ)
  codes j zero k = pick (endb j) ([] ∷ []) []
  codes j (suc f) k = codes j f (suc k) ++ pick (levelb j k) (map (λ c. k ∷ c) (codes k f (suc k))) []

  end_is : (j : ℕ) → Codable B j [] → endb j ≡ true
  end_is j h = is_either _ _ (λ n. lt-ltb _ _ (h (leb-false _ _ n)))

  end_by : (j : ℕ) → endb j ≡ true → Codable B j []
  end_by j t h = elim (either_is _ _ t) [ inl p ↦ absurd (omega (arith, leb-true 63 j p)) | inr p ↦ ltb-true _ _ p ]

  level_is : (j k : ℕ) → 0 < B.size k → LevelCode B.len (k - j - 1) (B.size k) → levelb j k ≡ true
  level_is j k s h = is_both _ _ (lt-ltb _ _ s) (is_both _ _ (lt-ltb _ _ h.0) (is_either _ _ (λ n. lt-ltb _ _ (h.1 (ltb-false _ _ n)))))

  level_by : (j k : ℕ) → levelb j k ≡ true → (0 < B.size k) × LevelCode B.len (k - j - 1) (B.size k)
  level_by j k t =
      let u = both_is _ _ (both_is _ _ t).1 in
      let far : 16 ≤ k - j - 1 → 0 < B.len 240 =
      λ h. elim (either_is _ _ u.1) [ inl s ↦ absurd (omega (arith, ltb-true (k - j - 1) 16 s)) | inr s ↦ ltb-true _ _ s ] in
      (ltb-true _ _ (both_is _ _ t).0, (ltb-true _ _ u.0, far))

  abbrev From : ℕ → List ℕ → Type 0
  From k [] = Unit {0}
  From k (i ∷ c) = k ≤ i

  from_choice : (k : ℕ) (c : List ℕ) → Choice B k c → From (suc k) c
  from_choice k [] h = tt
  from_choice k (i ∷ c) h = h.0

  codes_all : (j f k : ℕ) → k + f ≡ 64 → (c : List ℕ) → From k c → Choice B j c → Codable B j c → Memᴰ c (codes j f k)
  unfolding codes
  codes_all j zero k e [] g h d = rw (end_is j d) (Memᴰ.head refl)
  codes_all j zero k e (i ∷ c) g h d = absurd (omega (arith, h.1))
  codes_all j (suc f) k e [] g h d = Memᴰ.append_left _ (codes_all j f (suc k) (omega arith) [] tt h d)
  codes_all j (suc f) k e (i ∷ c) g h d = elim (eq-or-lt_of_le g) [
    | inr q ↦ Memᴰ.append_left _ (codes_all j f (suc k) (omega arith) (i ∷ c) q h d)
    | inl q ↦
        let m = codes_all i f (suc i) (omega arith) c (from_choice i c h.3) h.3 d.1 in
        Memᴰ.append_right (codes j f (suc k)) (rw (q, level_is j i h.2 d.0) (Memᴰ.map (λ c. i ∷ c) m))
  ]

  codes_only : (j f k : ℕ) → k + f ≡ 64 → j < k → (c : List ℕ) → Memᴰ c (codes j f k) → Choice B j c × Codable B j c
  unfolding codes
  codes_only j zero k e l c m =
      let u = in_picked (endb j) _ m in
      subst (λ c. Choice B j c × Codable B j c) (sym (Memᴰ.eq_of_singleton u.1)) (tt, end_by j u.0)
  codes_only j (suc f) k e l c m = elim (Memᴰ.append_cases (codes j f (suc k)) m) [
    | inl n ↦ codes_only j f (suc k) (omega arith) (omega arith) c n
    | inr n ↦
        let u = in_picked (levelb j k) _ n in
        let v = Memᴰ.of_map (λ c. k ∷ c) (codes k f (suc k)) u.1 in
        let w = codes_only k f (suc k) (omega arith) (omega arith) v.0 v.1 in
        let x = level_by j k u.0 in
        subst (λ c. Choice B j c × Codable B j c) v.2 ((l, omega arith, x.0, w.0), (x.1, w.1))
  ]

  -- of the whole block
  abbrev pub codables : List (List ℕ)
  codables = codes 0 63 1

  pub codables_all : {c : List ℕ} → CodableChoice B c → Memᴰ c codables
  codables_all {c} h = codes_all 0 63 1 refl c (from_choice 0 c h.choice) h.choice h.codable

  pub codables_only : {c : List ℕ} → Memᴰ c codables → CodableChoice B c
  codables_only {c} m = let h = codes_only 0 63 1 refl (omega arith) c m in record { choice = h.0; codable = h.1 }
