-- Whether the still's next corner passes the budget, before any block moves.
-- Assumes nothing.
use mathlib.Core.Path.{◌≡◌, refl}
use mathlib.Core.Bool.{Bool, true, false, cond}
use Prim.Native.Nat.{ℕ, zero, suc, ◌+◌, ◌*◌, ◌≤◌, ◌<◌}
use native.Mathlib.Omega.{arith}
use borrow.Author.Tests.{eqb-true}
use lib.Dec.{eqb}
use Rattle.corners.specs.Pair.{Pair}
use Rattle.corners.specs.Still.{total, Attains}
use Rattle.corners.specs.Fits.{Fits}
use Rattle.corners.specs.Merging.{ahead, Course, Stands, Goes, Goes.stays, Goes.moves, onward, growth}
use Rattle.corners.proofs.Moves.{course_way}
use Rattle.corners.proofs.Merge.{merge_fits}

-- Each block may go there.
pub goes_onward : {A : Pair → Type 0} {low : ℕ} {H C : Pair} {c d : ℕ} (a b : ℕ) → Course A low H C c d → a * low < b → d * a ≤ b * c
    → Goes A a b C c d (onward a b C c d)
goes_onward {A} {low} {H} {C} {c} {d} a b r l h = go (eqb (d * a) (b * c)) (eqb-true (d * a) (b * c))
  where
    go : (t : Bool) → (t ≡ true → d * a ≡ b * c) → Goes A a b C c d (cond t (ahead C c d) C)
    go true e = moves (course_way a b r l (e refl)).0 (e refl)
    go false e = stays h

pub onward_bits : (a b : ℕ) (C : ℕ → Pair) (c d : ℕ → ℕ) (n : ℕ)
    → (total (λ i. onward a b (C i) (c i) (d i)) n).bits ≡ (total C n).bits + growth a b c d n
onward_bits a b C c d zero = refl
onward_bits a b C c d (suc n) = omega (arith, onward_bits a b C c d n, one (eqb (d n * a) (b * c n)))
  where
    one : (t : Bool) → (cond t (ahead (C n) (c n) (d n)) (C n)).bits ≡ (C n).bits + cond t (c n) 0
    one true = refl
    one false = omega arith

-- With the steepest price (a', b') the next corner has more bits than the budget: the present one is the answer.
pub passing_fits : (A : ℕ → Pair → Type 0) (n : ℕ) (H C : ℕ → Pair) (c d : ℕ → ℕ) {low a b : ℕ} (a' b' budget : ℕ)
    → ((i : ℕ) → i < n → Stands (A i) a b (C i) (c i) (d i)) → ((i : ℕ) → i < n → Course (A i) low (H i) (C i) (c i) (d i))
    → ((i : ℕ) → i < n → d i * a' ≤ b' * c i) → a' * low < b' → a * b' < b * a'
    → (total C n).bits ≤ budget → budget < (total C n).bits + growth a' b' c d n → Fits (Attains A n) budget (total C n)
passing_fits A n H C c d a' b' budget each course top l steep h k =
    merge_fits A n C c d each (λ i. onward a' b' (C i) (c i) (d i)) (λ i m. goes_onward a' b' (course i m) l (top i m)) steep
    budget h (omega (arith, onward_bits a' b' C c d n))
