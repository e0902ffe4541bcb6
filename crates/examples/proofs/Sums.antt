-- Every pair that a still attains, as a list that antt computes.
-- Assumes nothing.
use mathlib.Core.Path.{◌≡◌, refl, sym, ap, ◌∙◌}
use mathlib.Core.Logic.{inl, inr}
use mathlib.Core.List.Memᴰ
use mathlib.Core.List.{List, [], ◌∷◌, ◌++◌, map, Memᴰ}
use Prim.Native.Nat.{ℕ, zero, suc, ◌+◌, ◌<◌}
use native.Mathlib.Omega.{arith}
use lib.ListN.{length, get_or}
use Rattle.block.specs.Block.{Block}
use Rattle.corners.specs.Pair.{Pair}
use Rattle.corners.specs.Still.{total}
use Rattle.corners.proofs.Corners.{pair_path}
use Rattle.attained.specs.Attained.{pair_of, Attained}
use Rattle.examples.specs.Example.{block, pair, Attainable}
use Rattle.examples.proofs.Choices.{codables, codables_all, codables_only}

-- of one block
abbrev pairs : Block → List Pair
pairs B = map (pair_of B) (codables B)

pairs_all : (B : Block) {P : Pair} → Attained B P → Memᴰ P (pairs B)
pairs_all B x = Memᴰ.cast x.is (Memᴰ.map (pair_of B) (codables_all B x.codable))

pairs_only : (B : Block) {P : Pair} → Memᴰ P (pairs B) → Attained B P
pairs_only B m = let u = Memᴰ.of_map (pair_of B) (codables B) m in record { choice = u.0; codable = codables_only B u.1; is = sym u.2 }

abbrev plus : Pair → Pair → Pair
plus X Y = pair (X.bits + Y.bits) (X.error + Y.error)

-- each of the one with each of the other
unfoldable pub crossed : List Pair → List Pair → List Pair
crossed [] M = []
crossed (X ∷ L) M = map (plus X) M ++ crossed L M

crossed_all : (L : List Pair) {M : List Pair} {X Y : Pair} → Memᴰ X L → Memᴰ Y M → Memᴰ (plus X Y) (crossed L M)
unfolding crossed
crossed_all [] m n = absurd (Memᴰ.not-nil m)
crossed_all (Z ∷ L) {M} {Y = Y} m n = elim (Memᴰ.cases_cons m) [
  | inl e ↦ Memᴰ.append_left _ (Memᴰ.cast (ap (λ (X : Pair). plus X Y) e) (Memᴰ.map (plus Z) n))
  | inr k ↦ Memᴰ.append_right (map (plus Z) M) (crossed_all L k n)
]

crossed_only : (L M : List Pair) {P : Pair} → Memᴰ P (crossed L M) → (X Y : Pair) × Memᴰ X L × Memᴰ Y M × (P ≡ plus X Y)
unfolding crossed
crossed_only [] M m = absurd (Memᴰ.not-nil m)
crossed_only (Z ∷ L) M m = elim (Memᴰ.append_cases (map (plus Z) M) m) [
  | inl n ↦ let u = Memᴰ.of_map (plus Z) M n in (Z, u.0, Memᴰ.head refl, u.1, sym u.2)
  | inr n ↦ let u = crossed_only L M n in (u.0, u.1, Memᴰ.tail u.2, u.3, u.4)
]

-- a sum in two parts: the first pair, and the others
total_first : (f : ℕ → Pair) (n : ℕ) → total f (suc n) ≡ plus (f 0) (total (λ i. f (suc i)) n)
total_first f zero = pair_path _ _ (omega arith) (omega arith)
total_first f (suc n) =
    let e = total_first f n in
    let p = ap (λ (P : Pair). P.bits) e in
    let q = ap (λ (P : Pair). P.error) e in
    pair_path _ _ (omega arith) (omega arith)

-- of the still
unfoldable pub sums : List Block → List Pair
sums [] = pair 0 0 ∷ []
sums (B ∷ Bs) = crossed (pairs B) (sums Bs)

total_in : (Bs : List Block) (f : ℕ → Pair) → ((i : ℕ) → i < length Bs → Attained (get_or Bs i (block [] [] [])) (f i))
    → Memᴰ (total f (length Bs)) (sums Bs)
unfolding sums
total_in [] f h = Memᴰ.head refl
total_in (B ∷ Bs) f h =
    Memᴰ.cast (total_first f (length Bs))
    (crossed_all (pairs B) (pairs_all B (h 0 (omega arith))) (total_in Bs (λ i. f (suc i)) (λ i l. h (suc i) (omega arith))))

pub sums_all : (Bs : List Block) {P : Pair} → Attainable Bs P → Memᴰ P (sums Bs)
sums_all Bs x = Memᴰ.cast x.adds (total_in Bs x.pick x.each)

pub sums_only : (Bs : List Block) {P : Pair} → Memᴰ P (sums Bs) → Attainable Bs P
unfolding sums
sums_only [] m = record { pick = λ i. pair 0 0; each = λ i l. absurd (omega arith); adds = Memᴰ.eq_of_singleton m }
sums_only (B ∷ Bs) {P} m =
    let u = crossed_only (pairs B) (sums Bs) m in
    let x = sums_only Bs u.3 in
    join u.0 u.1 (pairs_only B u.2) x u.4
  where
    put : Pair → (ℕ → Pair) → ℕ → Pair
    put X f zero = X
    put X f (suc i) = f i

    join : (X Y : Pair) → Attained B X → Attainable Bs Y → P ≡ plus X Y → Attainable (B ∷ Bs) P
    join X Y x y e = record {
      pick = put X y.pick;
      each = each;
      adds = e ∙ ap (plus X) y.adds ∙ sym (total_first (put X y.pick) (length Bs));
    }
      where
        each : (i : ℕ) → i < suc (length Bs) → Attained (get_or (B ∷ Bs) i (block [] [] [])) (put X y.pick i)
        each zero l = x
        each (suc i) l = y.each i (omega arith)
