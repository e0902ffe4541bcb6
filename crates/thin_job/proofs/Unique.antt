-- The thinning job's promise settles its answer and the levels.
-- Assumes nothing.
use mathlib.Core.Path.{◌≡◌, sym, ◌∙◌}
use mathlib.Core.List.{List}
use Prim.Native.Nat.{ℕ, ◌<◌}
use native.Mathlib.Omega.{arith}
use lib.IntN.{ℤ, pos}
use lib.ListN.{length}
use lib.Seq.{ext_get_or}
use Rattle.std.specs.Prelude.{Bool, Result}
use Rattle.answers.specs.declared.Refusal.{Refusal}
use Rattle.answers.proofs.Same.{kept_same}
use Rattle.thin_job.specs.ThinJob.{ThinnedBy, ThinMeets, refuses, thins}

thinned_same : {stays : ℕ → Bool} {before x y : List ℤ} → ThinnedBy stays before x → ThinnedBy stays before y → x ≡ y
thinned_same {before = before} {x = x} {y = y} s t =
    ext_get_or (pos 0) x y (s.count ∙ sym t.count) (λ i h.
    let l : i < length before = omega (arith, s.count) in s.each i l ∙ sym (t.each i l))

pub unique : {before : List ℤ} {keep : List ℕ} {r s : Result ℕ Refusal} {x y : List ℤ}
    → ThinMeets before keep r x → ThinMeets before keep s y → (r ≡ s) × (x ≡ y)
unique {r = r} {s = s} (refuses n d e v p q) (refuses m f g w o k) = (kept_same r s (cc), cc)
unique {r = r} {s = s} (refuses n d e v p q) (thins w t o) = (kept_same r s (cc), cc)
unique {r = r} {s = s} (thins v t p) (refuses m f g w o k) = (kept_same r s (cc), cc)
unique {r = r} {s = s} (thins v t p) (thins w u o) = (kept_same r s (cc), thinned_same t u)
