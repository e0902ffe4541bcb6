-- The promise of the head-end's call settles the number that it returns and the buffer.
-- Assumes nothing.
use mathlib.Core.Path.{◌≡◌}
use mathlib.Core.List.{List}
use Prim.Native.Nat.{ℕ}
use Rattle.budget_job.proofs.Unique as job
use Rattle.headend.specs.HeadEnd.{HeadEndMeets, refuses, answers}

pub unique : {packet : List ℕ} {budget : ℕ} {before x y : List ℕ} {r s : ℕ}
    → HeadEndMeets packet budget before r x → HeadEndMeets packet budget before s y → (r ≡ s) × (x ≡ y)
unique (refuses n d e v p q) (refuses m f g w o k) = (cc, cc)
unique (refuses n d e v p q) (answers w a xs t o k) = (cc, cc)
unique (answers v a xs t p q) (refuses m f g w o k) = (cc, cc)
unique (answers v a xs t p q) (answers w b ys u o k) = let j = job.unique t.job u.job in (cc j.0, cc (j.0, j.1))
