-- Laws of verdicts that are joined.
-- Assumes nothing.
use mathlib.Core.Path.{◌≡◌, refl}
use mathlib.Core.Bool.{Bool, true, false}
use Prim.Native.Nat.{ℕ}
use native.Mathlib.Omega.{arith}
use Rattle.answers.specs.Said.{Verdict, fine, refuse, ◌then◌, when}

pub then_fine : (v w : Verdict) → v then w ≡ fine → (v ≡ fine) × (w ≡ fine)
then_fine fine w e = (refl, e)
then_fine (refuse n d f) w e = absurd (let z : ◌≡◌ {A = ℕ} 0 1 = cc in omega arith)

pub then_same : {u v w x : Verdict} → u ≡ v → w ≡ x → u then w ≡ v then x
then_same p q = rw (p, q)

-- a verdict that is fine hands on to the next, and one that is not is the answer
pub then_on : {v : Verdict} (w : Verdict) → v ≡ fine → v then w ≡ w
then_on w e = rw e

pub then_stop : {v : Verdict} {n d f : ℕ} (w : Verdict) → v ≡ refuse n d f → v then w ≡ refuse n d f
then_stop w e = rw e

pub when_fine : (b : Bool) (n d e : ℕ) → when b (refuse n d e) ≡ fine → b ≡ false
when_fine true n d f e = absurd (let z : ◌≡◌ {A = ℕ} 0 1 = cc in omega arith)
when_fine false n d f e = refl
