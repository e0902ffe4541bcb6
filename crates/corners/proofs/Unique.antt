-- There is one list of the corners, one pair that a price gives, one that a budget gives, one number of least bits.
-- Assumes nothing.
use mathlib.Core.Path.{◌≡◌, refl, ap, ap₂, sym}
use mathlib.Core.List.Memᴰ
use mathlib.Core.List.{List, [], ◌∷◌, Memᴰ}
use mathlib.Core.Logic.{◌⊎◌, inl, inr}
use Prim.Native.Nat.{ℕ, ◌≤◌}
use native.Mathlib.Omega.{arith}
use native.Mathlib.Nat.{le_antisymm}
use Rattle.corners.specs.Pair.{Pair, cost}
use Rattle.corners.specs.Price.{Wins}
use Rattle.corners.specs.Listed.{Rising, CornerList}
use Rattle.corners.specs.Fits.{Fits, LeastBits}
use Rattle.corners.proofs.Corners.{same_corner}
use Rattle.corners.proofs.Winner.{tie}

-- The two heads of rising lists with the same pairs are the same.
same_head : (P Q : Pair) (L M : List Pair) → Rising (P ∷ L) → Rising (Q ∷ M) → (P ≡ Q) ⊎ Memᴰ P M → (Q ≡ P) ⊎ Memᴰ Q L → P ≡ Q
same_head P Q L M r s (inl e) f = e
same_head P Q L M r s (inr m) (inl e) = sym e
same_head P Q L M r s (inr m) (inr n) = absurd (omega (arith, r.0 Q n, s.0 P m))

-- What stands behind the head of a rising list, and in the other list, stands behind its head.
behind : (P Q X : Pair) (L M : List Pair) → Rising (P ∷ L) → P ≡ Q → Memᴰ X L → (X ≡ Q) ⊎ Memᴰ X M → Memᴰ X M
behind P Q X L M r e m (inr n) = n
behind P Q X L M r e m (inl d) =
    let f = ap (λ (R : Pair). R.bits) d in
    let g = ap (λ (R : Pair). R.bits) e in
    absurd (omega (arith, r.0 X m))

rising_unique : (L M : List Pair) → Rising L → Rising M
    → ((P : Pair) → Memᴰ P L → Memᴰ P M) → ((P : Pair) → Memᴰ P M → Memᴰ P L) → L ≡ M
rising_unique [] [] r s f g = refl
rising_unique [] (Q ∷ M) r s f g = absurd (Memᴰ.not-nil (g Q (Memᴰ.head refl)))
rising_unique (P ∷ L) [] r s f g = absurd (Memᴰ.not-nil (f P (Memᴰ.head refl)))
rising_unique (P ∷ L) (Q ∷ M) r s f g =
    let e = same_head P Q L M r s (Memᴰ.cases_cons (f P (Memᴰ.head refl))) (Memᴰ.cases_cons (g Q (Memᴰ.head refl))) in
    ap₂ ◌∷◌ e (rising_unique L M r.1 s.1
    (λ X m. behind P Q X L M r e m (Memᴰ.cases_cons (f X (Memᴰ.tail m))))
    (λ X m. behind Q P X M L s (sym e) m (Memᴰ.cases_cons (g X (Memᴰ.tail m)))))

pub list_unique : {Att : Pair → Type 0} {L M : List Pair} → CornerList Att L → CornerList Att M → L ≡ M
list_unique {Att} {L} {M} l m =
    rising_unique L M l.rising m.rising (λ P p. m.complete P (l.sound P p)) (λ P p. l.complete P (m.sound P p))

pub wins_unique : {Att : Pair → Type 0} {a b : ℕ} {P Q : Pair} → 1 ≤ a → Wins Att a b P → Wins Att a b Q → P ≡ Q
wins_unique {Att} {a} {b} {P} {Q} l p q =
    let h = p.least Q q.attained in
    let k = q.least P p.attained in
    let e : cost a b P ≡ cost a b Q = omega arith in
    tie a b Q P l (le_antisymm (p.fewest Q q.attained (sym e)) (q.fewest P p.attained e)) e

pub fits_unique : {Att : Pair → Type 0} {budget : ℕ} {P Q : Pair} → Fits Att budget P → Fits Att budget Q → P ≡ Q
fits_unique {P = P} {Q = Q} p q =
    same_corner p.corner q.corner (le_antisymm (q.most P p.corner p.within) (p.most Q q.corner q.within))

pub least_bits_unique : {Att : Pair → Type 0} {m n : ℕ} → LeastBits Att m → LeastBits Att n → m ≡ n
least_bits_unique p q = omega (arith, p.bits, q.bits, p.least q.pair q.attained, q.least p.pair p.attained)
