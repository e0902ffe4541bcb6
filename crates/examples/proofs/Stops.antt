-- Tests of a still over every pair that it attains, and what they show when they come out true.
-- Assumes nothing.
use mathlib.Core.Path.{◌≡◌, refl, sym, ◌∙◌}
use mathlib.Core.Bool.{Bool, true, false, not}
use mathlib.Core.List.Memᴰ
use mathlib.Core.List.{List, [], ◌∷◌, ◌++◌, append_assoc, Memᴰ}
use Prim.Native.Nat.{ℕ, ◌*◌, ◌-◌, ◌<◌}
use native.Mathlib.Omega.{arith}
use borrow.Author.Tests.{ltb-true, leb-true, eqb-true, eq-eqb, le-leb, not-true}
use lib.Dec.{ltb, leb, eqb}
use Rattle.block.specs.Block.{Block}
use Rattle.price.specs.Accepted.{Accepted, most_on_error, most_on_bits}
use Rattle.corners.specs.Pair.{Pair, cost}
use Rattle.corners.specs.Price.{Least}
use Rattle.corners.specs.Corner.{Corner}
use Rattle.corners.specs.Listed.{CornerList}
use Rattle.corners.specs.Fits.{Fits, LeastBits}
use Rattle.corners.specs.Merging.{SoFar}
use Rattle.corners.proofs.Corners.{pair_path}
use Rattle.corners.proofs.Listing.{start, step, finish}
use Rattle.examples.specs.Example.{Attainable}
use Rattle.examples.proofs.Truth.{both, implies, both_is, is_both, implied, never}
use Rattle.examples.proofs.Members.{all, all_at, any, any_is, each, each_at}
use Rattle.examples.proofs.Sums.{sums, sums_all, sums_only}
use Rattle.examples.proofs.Finding.{found}

abbrev equal : Pair → Pair → Bool
equal P Q = both (eqb P.bits Q.bits) (eqb P.error Q.error)

equal_by : (P Q : Pair) → equal P Q ≡ true → P ≡ Q
equal_by P Q t = pair_path P Q (eqb-true _ _ (both_is _ _ t).0) (eqb-true _ _ (both_is _ _ t).1)

unequal : (P : Pair) → not (equal P P) ≡ true → ⊥
unequal P t = never (sym (not-true _ t) ∙ is_both _ _ (eq-eqb P.bits P.bits refl) (eq-eqb P.error P.error refl))

in_by : (P : Pair) (L : List Pair) → any (equal P) L ≡ true → Memᴰ P L
in_by P L t = let u = any_is _ _ t in Memᴰ.cast (equal_by P u.0 u.2) u.1

module _ (Bs : List Block) where
  -- P is attainable
  abbrev attainedb : Pair → Bool
  attainedb P = any (equal P) (sums Bs)

  attained_by : (P : Pair) → attainedb P ≡ true → Attainable Bs P
  attained_by P t = sums_only Bs (in_by P _ t)

  -- no attainable pair is cheaper than P
  abbrev leastb : ℕ → ℕ → Pair → Bool
  leastb a b P = all (λ X. leb (cost a b P) (cost a b X)) (sums Bs)

  least_by : (a b : ℕ) (P : Pair) → leastb a b P ≡ true → Least (Attainable Bs) a b P
  least_by a b P t X x = leb-true _ _ (all_at _ _ t (sums_all Bs x))

  -- T and L are the corners from T on, to which the price (a, b) has led
  unfoldable pub onb : ℕ → ℕ → Pair → List Pair → Bool
  onb a b T [] = each (ltb 0 b ∷ leastb 1 0 T ∷ [])
  onb a b T (N ∷ L) =
      let c = N.bits - T.bits in
      let d = T.error - N.error in
      each (ltb T.bits N.bits ∷ leb c most_on_error ∷ leb d most_on_bits ∷ ltb (a * d) (b * c)
      ∷ leastb c d T ∷ attainedb N ∷ leastb c d N ∷ onb c d N L ∷ [])

  on_by : (M : List Pair) {a b : ℕ} {T : Pair} → SoFar (Attainable Bs) M a b T → (L : List Pair) → onb a b T L ≡ true
      → CornerList (Attainable Bs) (M ++ (T ∷ L))
  unfolding onb
  on_by M {T = T} S [] t = let u = each_at _ t in finish S (ltb-true _ _ (u 0)) (least_by 1 0 T (u 1))
  on_by M {T = T} S (N ∷ L) t =
      let c = N.bits - T.bits in
      let d = T.error - N.error in
      let u = each_at _ t in
      let more = ltb-true T.bits N.bits (u 0) in
      let accepted : Accepted c d = record { a_low = omega arith; a_high = leb-true _ _ (u 1); b_high = leb-true _ _ (u 2) } in
      let S' = step S c d accepted (ltb-true _ _ (u 3)) (least_by c d T (u 4)) N (attained_by N (u 5)) (least_by c d N (u 6)) more in
      rw (append_assoc M (T ∷ []) (N ∷ L)) at (on_by (M ++ (T ∷ [])) S' L (u 7))

  -- L is the list of the corners
  unfoldable pub listsb : List Pair → Bool
  listsb [] = false
  listsb (T ∷ L) = each (attainedb T ∷ leastb 0 1 T ∷ onb 0 1 T L ∷ [])

  pub lists_by : (L : List Pair) → listsb L ≡ true → CornerList (Attainable Bs) L
  unfolding listsb
  lists_by [] t = absurd (never t)
  lists_by (T ∷ L) t =
      let u = each_at _ t in
      let h = least_by 0 1 T (u 1) in
      on_by [] (start (Attainable Bs) 0 1 T (attained_by T (u 0)) h h) L (u 2)

  -- P is attainable and not a corner
  abbrev pub no_cornerb : Pair → Bool
  no_cornerb P = let L = found (sums Bs) in each (attainedb P ∷ listsb L ∷ all (λ Q. not (equal P Q)) L ∷ [])

  pub no_corner_by : (P : Pair) → no_cornerb P ≡ true → Attainable Bs P × ¬ Corner (Attainable Bs) P
  no_corner_by P t =
      let u = each_at _ t in
      (attained_by P (u 0), λ c. unequal P (all_at _ _ (u 2) ((lists_by _ (u 1)).complete P c)))

  -- the budget gives P
  abbrev pub fitsb : ℕ → Pair → Bool
  fitsb budget P =
      let L = found (sums Bs) in
      each (listsb L ∷ any (equal P) L ∷ leb P.bits budget ∷ all (λ Q. implies (leb Q.bits budget) (leb Q.bits P.bits)) L ∷ [])

  pub fits_by : (budget : ℕ) (P : Pair) → fitsb budget P ≡ true → Fits (Attainable Bs) budget P
  fits_by budget P t =
      let u = each_at _ t in
      let l = lists_by _ (u 0) in
      record {
        corner = l.sound P (in_by P _ (u 1));
        within = leb-true _ _ (u 2);
        most = λ Q q h. leb-true _ _ (implied _ _ (all_at _ _ (u 3) (l.complete Q q)) (le-leb _ _ h));
      }

  -- the least bits are m, and the budget is below them
  abbrev pub none_fitsb : ℕ → ℕ → Bool
  none_fitsb budget m = each (any (λ X. eqb X.bits m) (sums Bs) ∷ all (λ X. leb m X.bits) (sums Bs) ∷ ltb budget m ∷ [])

  pub none_fits_by : (budget m : ℕ) → none_fitsb budget m ≡ true → LeastBits (Attainable Bs) m × (budget < m)
  none_fits_by budget m t =
      let u = each_at _ t in
      let v = any_is _ _ (u 0) in (
        record {
          pair = v.0;
          attained = sums_only Bs v.1;
          bits = eqb-true _ _ v.2;
          least = λ X x. leb-true _ _ (all_at _ _ (u 1) (sums_all Bs x));
        },
        ltb-true _ _ (u 2),
      )
