-- Nothing is stored before the count is known to fit.
-- Assumes nothing.
use Rattle.std.proofs.Common.{refl, ℕ, arith}
use Rattle.std.proofs.lemmas.List.{length-replicate}
use Rattle.list_job.specs.ListJob.{Lists.uncodable}
use Rattle.list_job.proofs.Finding.{said_err, ends_codable, too_short, stored_seen, stored_again}
use Rattle.list_job.proofs.list_still.Goals as goal

pub returns-then-count-le-REMEMBERED : goal.returns-then-count-le-REMEMBERED
returns-then-count-le-REMEMBERED c =
    rw c.copy_from_slice.ensures.after (stored_seen (ends_codable c.in_ok-find_ends.ensures.ends) c.walk_all-count.ensures
    (omega (arith, c.if-count-le-REMEMBERED.true, length-replicate {A = ℕ} 12288 0)) (omega (arith, c.if-list-count.false)) refl)

pub returns-else-count-le-REMEMBERED : goal.returns-else-count-le-REMEMBERED
returns-else-count-le-REMEMBERED c =
    stored_again (ends_codable c.in_ok-find_ends.ensures.ends) c.walk_all-count.ensures (omega (arith, c.if-list-count.false)) c.walk_all.ensures refl

pub returns-then-list-count : goal.returns-then-list-count
returns-then-list-count c = too_short (ends_codable c.in_ok-find_ends.ensures.ends) c.walk_all-count.ensures c.if-list-count.true (rw c.new.ensures refl)

pub returns-in_err-find_ends : goal.returns-in_err-find_ends
returns-in_err-find_ends c = uncodable c.in_err-find_ends.field-0.0.block c.in_err-find_ends.ensures.uncodable (said_err _ _ c.from_residual.ensures.1) refl
