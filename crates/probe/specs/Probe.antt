-- What the probes promise: the job's own promise, and its answer told in four numbers. Where the answer has no four places nothing is done.
use Rattle.std.specs.Prelude.{◌≡◌, Result, List, ℕ, ℤ, length}
use Rattle.answers.specs.declared.Refusal.{Refusal}
use Rattle.answers.specs.Said.{Said, said_point, said_corners, said_kept}
use Rattle.price_job.specs.PriceJob.{PriceMeets}
use Rattle.list_job.specs.ListJob.{ListMeets}
use Rattle.budget_job.specs.BudgetJob.{BudgetMeets}
use Rattle.thin_job.specs.ThinJob.{ThinMeets}
use Rattle.probe.specs.Told.{told}

-- of a job that answers r where `Meets r`, and whose answer says `said r`; `Idle` where nothing is done to what else is lent
pub data Told {A : Type 0} (Meets : Result A Refusal → Type 0) (said : Result A Refusal → Said) (Idle : Type 0) (answer answer' : List ℕ) : Type 0 where
  tells : length answer ≡ 4 → (r : Result A Refusal) → Meets r → answer' ≡ told (said r) → Told Meets said Idle answer answer'
  idle : (length answer ≡ 4 → ⊥) → Idle → answer' ≡ answer → Told Meets said Idle answer answer'

abbrev pub PriceTold : (levels : List ℤ) (steps lengths : List ℕ) (a b : ℕ) (keep keep' answer answer' : List ℕ) → Type 0
PriceTold levels steps lengths a b keep keep' = Told (λ r. PriceMeets levels steps lengths a b keep r keep') said_point (keep' ≡ keep)

abbrev pub ListTold : (levels : List ℤ) (steps lengths list list' answer answer' : List ℕ) → Type 0
ListTold levels steps lengths list list' = Told (λ r. ListMeets levels steps lengths list r list') said_corners (list' ≡ list)

abbrev pub FitTold : (levels : List ℤ) (steps lengths : List ℕ) (budget : ℕ) (keep keep' answer answer' : List ℕ) → Type 0
FitTold levels steps lengths budget keep keep' = Told (λ r. BudgetMeets levels steps lengths budget keep r keep') said_point (keep' ≡ keep)

abbrev pub ThinTold : (levels levels' : List ℤ) (keep answer answer' : List ℕ) → Type 0
ThinTold levels levels' keep = Told (λ r. ThinMeets levels keep r levels') said_kept (levels' ≡ levels)
