-- `price_job::price` meets its contract: what no check refuses is decided, and what one refuses is left.
use Rattle.std.proofs.Common.{◌≡◌, Err, Ok, refl, sym, ap, rules, arith, length, ℕ}
use Rattle.block.specs.Block.{Block}
use Rattle.answers.specs.declared.Kind.TheVariants.{Uncodable}
use Rattle.answers.specs.Said.{said_point}
use Rattle.winners.proofs.Lent.{lent_blocks}
use Rattle.winners.proofs.Told.{told_uncodable}
use Rattle.price_job.specs.PriceJob.{Priced, uncodable, refuses, prices}
use Rattle.price_job.proofs.Deciding.{winners_priced}
use Rattle.price_job.proofs.price.Goals as goal

pub returns-in_err-point : goal.returns-in_err-point
returns-in_err-point c =
    let e : c.from_residual-in_err-point.result ≡ Err (record { kind = Uncodable; first = c.in_err-point.field-0.0.block; second = 0 }) = search rules in
    prices (sym c.in_ok-still.ensures.told)
    (lent_blocks c.in_ok-still.still (λ (B : ℕ → Block) (n : ℕ). Priced B n c.args.a c.args.b c.args.keep.now c.from_residual-in_err-point.result c.args.keep.now)
    c.in_ok-still.ensures.lent
    (uncodable c.in_err-point.field-0.0.block (told_uncodable (rw c.new-search.ensures at c.in_err-point.ensures.outcomes)) (ap said_point e) refl))

pub returns : goal.returns
returns c =
    prices (sym c.in_ok-still.ensures.told)
    (lent_blocks c.in_ok-still.still (λ (B : ℕ → Block) (n : ℕ). Priced B n c.args.a c.args.b c.args.keep.now (Ok c.in_ok-point.point) c.store.new.keep)
    c.in_ok-still.ensures.lent
    (winners_priced (rw (c.new-search.ensures, c.in_ok-still.ensures.price.0, c.in_ok-still.ensures.price.1) at c.in_ok-point.ensures.outcomes) (omega (arith, c.in_ok-still.ensures.room, ap length c.in_ok-still.ensures.lent.0)) (omega arith) c.store.auto.keep c.store.ensures))

pub returns-in_err-still : goal.returns-in_err-still
returns-in_err-still c =
    let e : c.from_residual.result ≡ Err c.in_err-still.field-0.0 = search rules in
    refuses _ _ _ (sym c.in_err-still.ensures.told) (ap said_point e) refl
