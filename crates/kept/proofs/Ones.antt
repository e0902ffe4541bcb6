-- The kept coefficients are a sum over the keep numbers: one keep number more adds its ones.
-- Assumes nothing.
use Rattle.std.proofs.Common.{◌≡◌, ℕ, zero, suc, ◌≤◌, List, length, get_or, take, sum_by, refl, ap, ◌∙◌, arith}
use Rattle.std.proofs.lemmas.List.{take_all}
use Rattle.std.proofs.lemmas.List.Sums.{sum_by_more}
use Rattle.std.specs.Int.Count.{ones}
use Rattle.kept.specs.Kept.{kept_to, kept_of}

kept_to_sum : (keep : List ℕ) (n : ℕ) → n ≤ length keep → kept_to (λ i. get_or keep i 0) n ≡ sum_by ones (take n keep)
kept_to_sum keep zero h = refl
kept_to_sum keep (suc n) h = grind (arith, kept_to_sum keep n (omega arith), sum_by_more ones keep n 0 (omega arith))

pub kept_of_sum : (keep : List ℕ) → kept_of keep ≡ sum_by ones keep
kept_of_sum keep = kept_to_sum keep (length keep) (omega arith) ∙ ap (sum_by ones) (take_all (length keep) keep (omega arith))
