-- The budget job's promise settles its answer and the keep numbers.
-- Assumes nothing.
use mathlib.Core.Path.{◌≡◌, sym, ◌∙◌}
use mathlib.Core.List.{List}
use Prim.Native.Nat.{ℕ}
use native.Mathlib.Omega.{arith}
use lib.IntN.{ℤ}
use lib.ListN.{length}
use lib.Seq.{ext_get_or}
use Rattle.std.specs.Prelude.{Result}
use Rattle.block.specs.Block.{Block}
use Rattle.corners.proofs.Unique.{fits_unique, least_bits_unique}
use Rattle.corners.proofs.Dearest.{fits_least}
use Rattle.attained.proofs.Uncodable.{uncodable_unique}
use Rattle.answers.specs.declared.Point.{Point}
use Rattle.answers.specs.declared.Refusal.{Refusal}
use Rattle.answers.proofs.Same.{point_same}
use Rattle.still.proofs.Fine.{budget_verdict_fine}
use Rattle.settled.proofs.OneChoice.{choice_attains, choice_unique, attained_codable}
use Rattle.budget_job.specs.BudgetJob.{Fitted, uncodable, passes, fits, BudgetMeets, refuses, answers}

module _ {B : ℕ → Block} {n : ℕ} where
  fitted_unique : {budget : ℕ} {before x y : List ℕ} {r s : Result Point Refusal} → length before ≡ n
      → Fitted B n budget before r x → Fitted B n budget before s y → (r ≡ s) × (x ≡ y)
  fitted_unique {r = r} {s = s} l (uncodable i u p q) (uncodable j v o k) = let e = uncodable_unique u v in (point_same r s (cc), cc)
  fitted_unique l (uncodable i u p q) (passes m v h o k) = absurd (attained_codable v.attained u)
  fitted_unique l (uncodable i u p q) (fits P f c m o) = absurd (attained_codable (choice_attains c) u)
  fitted_unique l (passes m v h o k) (uncodable i u p q) = absurd (attained_codable v.attained u)
  fitted_unique {r = r} {s = s} l (passes m v h o k) (passes w t g p q) = let e = least_bits_unique v t in (point_same r s (cc), cc)
  fitted_unique l (passes m v h o k) (fits P f c w p) = absurd (omega (arith, fits_least f v))
  fitted_unique l (fits P f c m o) (uncodable i u p q) = absurd (attained_codable (choice_attains c) u)
  fitted_unique l (fits P f c m o) (passes w v h p k) = absurd (omega (arith, fits_least f v))
  fitted_unique {x = x} {y = y} {r = r} {s = s} l (fits P f c m o) (fits Q g d k p) =
      let e : P ≡ Q = fits_unique f g in
      let z : x ≡ y = ext_get_or 0 x y (m ∙ sym k) (λ i h. choice_unique f.corner c (rw (sym e) at d) i (omega arith)) in
      (point_same r s (cc), z)

pub unique : {levels : List ℤ} {steps lengths : List ℕ} {budget : ℕ} {before x y : List ℕ} {r s : Result Point Refusal}
    → BudgetMeets levels steps lengths budget before r x → BudgetMeets levels steps lengths budget before s y → (r ≡ s) × (x ≡ y)
unique {r = r} {s = s} (refuses n d e v p q) (refuses m f g w o k) = (point_same r s (cc), cc)
unique {r = r} {s = s} (refuses n d e v p q) (answers w t) = (point_same r s (cc), cc)
unique {r = r} {s = s} (answers v t) (refuses m f g w o k) = (point_same r s (cc), cc)
unique {levels} {steps} {lengths} {before = before} (answers v t) (answers w u) =
    fitted_unique (budget_verdict_fine levels steps lengths (length before) v).1 t u
