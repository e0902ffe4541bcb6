-- `budget_job::fit` meets its contract: what no check refuses is fitted, and what one refuses is left.
use Rattle.std.proofs.Common.{◌≡◌, Err, refl, sym, ap, length, arith, rules}
use Rattle.answers.specs.declared.Kind.TheVariants.{Uncodable}
use Rattle.answers.specs.Said.{said_point}
use Rattle.still.specs.Blocks.{count_of}
use Rattle.still.proofs.Blocks.{block_in_limits}
use Rattle.budget_job.specs.BudgetJob.{refuses, uncodable}
use Rattle.budget_job.proofs.Fitting.{free_fits_with, fits_fitted, none_fits, meets}
use Rattle.budget_job.proofs.fit.Goals as goal

pub returns-then-low-budget : goal.returns-then-low-budget
returns-then-low-budget c =
    let s = c.in_ok-still.ensures in
    let n : length c.args.keep.now ≡ count_of c.in_ok-still.still = omega (arith, s.room, ap length s.lent.0) in
    meets c.in_ok-still.still s.lent s.told
    (fits_fitted (free_fits_with (rw c.new-search.ensures at c.in_ok-decide.ensures.decided) c.in_ok-decide.ensures.price (omega (arith, c.from-budget.ensures)) n (omega arith) c.store.ensures)
    c.store.auto.keep)

pub returns-then-budget-high : goal.returns-then-budget-high
returns-then-budget-high c =
    let s = c.in_ok-still.ensures in
    let e : c.new.result ≡ _ = c.new.ensures in
    meets c.in_ok-still.still s.lent s.told
    (rw e (none_fits (block_in_limits c.in_ok-still.still) (rw (c.decide.ensures.still, c.new-search.ensures) at c.in_ok-decide-2.ensures.decided) c.in_ok-decide-2.ensures.price (omega (arith, c.from-budget.ensures))))

pub returns : goal.returns
returns c =
    let s = c.in_ok-still.ensures in
    meets c.in_ok-still.still s.lent s.told (fits_fitted (rw (c.from-budget.ensures, c.bracket.ensures.still, c.decide-2.ensures.still, c.decide.ensures.still, c.new-search.ensures) at c.walk.ensures) c.walk.auto.keep)

pub returns-in_err-decide : goal.returns-in_err-decide
returns-in_err-decide c =
    let s = c.in_ok-still.ensures in
    let e : c.from_residual-in_err-decide.result ≡ Err (record { kind = Uncodable; first = c.in_err-decide.field-0.0.block; second = 0 }) = search rules in
    meets c.in_ok-still.still s.lent s.told
    (uncodable _ (rw c.new-search.ensures at c.in_err-decide.ensures.uncodable) (ap said_point e) refl)

pub returns-in_err-decide-2 : goal.returns-in_err-decide-2
returns-in_err-decide-2 c =
    let s = c.in_ok-still.ensures in
    let e : c.from_residual-in_err-decide-2.result ≡ Err (record { kind = Uncodable; first = c.in_err-decide-2.field-0.0.block; second = 0 }) = search rules in
    meets c.in_ok-still.still s.lent s.told
    (uncodable _ (rw (c.decide.ensures.still, c.new-search.ensures) at c.in_err-decide-2.ensures.uncodable) (ap said_point e) refl)

pub returns-in_err-still : goal.returns-in_err-still
returns-in_err-still c =
    let e : c.from_residual.result ≡ Err c.in_err-still.field-0.0 = search rules in
    refuses _ _ _ (sym c.in_err-still.ensures.told) (ap said_point e) refl
