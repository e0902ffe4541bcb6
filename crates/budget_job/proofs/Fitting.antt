-- What the budget job's parts come to: nothing fits, everything does, or the corner at which the walk ends.
use Rattle.std.proofs.Common.{◌≡◌, Ok, Err, ℕ, ◌<◌, ◌≤◌, List, length, map, take, get_or, refl, sym, ◌∙◌, arith, subst, Result, ℤ}
use Rattle.std.proofs.lemmas.List.{get_or-take}
use Rattle.block.specs.Block.{Block}
use Rattle.block.specs.Limits.{Limits}
use Rattle.price.specs.Accepted.{most_on_bits}
use Rattle.corners.specs.Pair.{Pair}
use Rattle.corners.specs.Still.{total, Attains}
use Rattle.corners.specs.Fits.{Fits}
use Rattle.corners.proofs.Corners.{pair_path}
use Rattle.corners.proofs.Dearest.{least_bits}
use Rattle.corners.proofs.Budget.{free_fits}
use Rattle.forward.specs.declared.Chosen.{Chosen}
use Rattle.attained.specs.Attained.{Attained, Smallest}
use Rattle.attained.specs.Chosen.{none, chosen_at, pair_at}
use Rattle.kept.specs.Kept.{kept_to}
use Rattle.answers.specs.declared.Point.{Point}
use Rattle.answers.specs.declared.Refusal.{Refusal}
use Rattle.answers.specs.Said.{fine}
use Rattle.still.specs.Refusals.{budget_verdict}
use Rattle.winners.proofs.Lent.{lent_blocks}
use Rattle.answers.specs.declared.Refusal.{Refusal}
use Rattle.answers.specs.declared.Kind.TheVariants as kind
use Rattle.still.specs.declared.Still.{Still}
use Rattle.still.specs.Blocks.{block_in, count_of}
use Rattle.winners.proofs.Storing.{keep_stored, kept_same}
use Rattle.halving.specs.declared.End.{End}
use Rattle.halving.specs.Brackets.{EndAt}
use Rattle.merge.specs.declared.Course.{Course}
use Rattle.merge.specs.Standing.{present_at, corner_at}
use Rattle.fitting.specs.Fitting.{FitsThere}
use Rattle.budget_job.specs.BudgetJob.{Fitted, passes, fits, BudgetMeets, answers}
use Rattle.budget_job.specs.Fitting.{pair_told, FitsWith}
use Rattle.budget_job.proofs.Winning.{end_told, total_won, fewest}

module _ {B : ℕ → Block} {n budget : ℕ} where
  -- A corner that fits, its blocks' pairs, and the keep numbers that are stored.
  fits_with : (pick : ℕ → Pair) (chosen : ℕ → ℕ) {p : Point} {keep : List ℕ} → Fits (Attains (λ i. Attained (B i)) n) budget (total pick n)
      → ((i : ℕ) → i < n → Smallest (B i) (pick i) (chosen i)) → pair_told p ≡ total pick n → p.kept ≡ kept_to chosen n
      → length keep ≡ n → ((i : ℕ) → i < n → get_or keep i 0 ≡ chosen i) → FitsWith B n budget p keep
  fits_with pick chosen {keep = keep} f s e k l h = record {
    fits = rw e f;
    choice = record { pick = pick; smallest = λ i m. rw (h i m) (s i m); adds = e };
    kept = k ∙ rw l (sym (kept_same (λ i. get_or keep i 0) chosen n h));
  }

  pub free_fits_with : {e : End} {m : ℕ} {keep : List ℕ} → EndAt B n e → e.price ≡ 0 → e.point.bits.0 ≤ budget → m ≡ n → length keep ≡ n
      → keep ≡ map (λ (c : Chosen). c.keep) (take m e.each) → FitsWith B n budget e.point keep
  free_fits_with {e} {m} {keep} h p l q r s =
      fits_with (pair_at e.each) (λ i. (chosen_at e.each i).keep)
      (free_fits (rw p at (total_won h.won)) budget (omega (arith, h.sums.bits)))
      (λ i j. (h.won.won i j).smallest) (end_told h) h.sums.kept r
      (λ i j. rw (s, keep_stored (take m e.each) i, get_or-take m e.each i none (omega arith)) refl)

  pub fits_fitted : {p : Point} {before after : List ℕ} → FitsWith B n budget p after → length after ≡ length before → Fitted B n budget before (Ok p) after
  fits_fitted {p} f l = fits (pair_told p) f.fits f.choice l (rw f.kept refl)

  pub none_fits : {e : End} {before : List ℕ} → ((i : ℕ) → i < n → Limits (B i)) → EndAt B n e → e.price ≡ most_on_bits → budget < e.point.bits.0
      → Fitted B n budget before (Err (record { kind = kind.Budget; first = e.point.bits.0; second = 0 })) before
  none_fits {e} limits h p l =
      passes e.point.bits.0
      (rw h.sums.bits (least_bits (total (pair_at e.each) n) (total_won h.won).attained (fewest limits (omega (arith, p)) h.won)))
      l refl refl

pub course_fits_with : {still : Still} {c : Course} {budget : ℕ} {keep : List ℕ} → FitsThere c budget → c.search.still ≡ still → length keep ≡ count_of still
    → ((i : ℕ) → i < count_of still → get_or keep i 0 ≡ (present_at c i).keep) → FitsWith (block_in still) (count_of still) budget c.point keep
course_fits_with {still} {c} {budget} {keep} f e l h =
    subst (λ (s : Still). FitsWith (block_in s) (count_of s) budget c.point keep) e
    (fits_with (corner_at c) (λ i. (present_at c i).keep) f.fits f.smallest (pair_path _ _ f.together.bits f.together.error) f.together.kept
    (rw e l) (λ i m. h i (rw (sym e) m)))

-- What holds of a checked still is promised of what was lent.
pub meets : {levels : List ℤ} {steps lengths : List ℕ} {budget : ℕ} {before after : List ℕ} {r : Result Point Refusal} (still : Still)
    → (still.levels.now ≡ levels) × (still.steps.now ≡ steps) × (still.lengths.now ≡ lengths)
    → fine ≡ budget_verdict levels steps lengths (length before) → Fitted (block_in still) (count_of still) budget before r after
    → BudgetMeets levels steps lengths budget before r after
meets {budget = budget} {before = before} {after = after} {r = r} still e v f =
    answers (sym v) (lent_blocks still (λ (B : ℕ → Block) (n : ℕ). Fitted B n budget before r after) e f)
