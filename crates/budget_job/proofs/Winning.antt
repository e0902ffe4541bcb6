-- The winners at a price are the still's: at the free price its last corner, at one above every error its least bits, and no bracket begins above every error.
use Rattle.std.proofs.Common.{◌≡◌, ℕ, ◌<◌, ◌≤◌, List, arith}
use native.Mathlib.Decide.{dec_le}
use Rattle.block.specs.Block.{Block}
use Rattle.block.specs.Limits.{Limits, most_error}
use Rattle.corners.specs.Price.{Wins, Least}
use Rattle.corners.specs.Still.{total, Attains}
use Rattle.corners.proofs.Sums.{total_wins}
use Rattle.corners.proofs.Dearest.{dearest_fewest}
use Rattle.corners.proofs.Corners.{pair_path}
use Rattle.forward.specs.declared.Chosen.{Chosen}
use Rattle.attained.specs.Attained.{Attained}
use Rattle.attained.specs.Chosen.{pair_at}
use Rattle.attained.proofs.Winning.{wins_gives, attained_error}
use Rattle.winners.specs.Winners.{Winners}
use Rattle.halving.specs.declared.End.{End}
use Rattle.halving.specs.Won.{WonAt}
use Rattle.halving.specs.Brackets.{EndAt, Brackets}
use Rattle.budget_job.specs.Fitting.{pair_told}

module _ {B : ℕ → Block} {n : ℕ} where
  pub end_told : {e : End} → EndAt B n e → pair_told e.point ≡ total (pair_at e.each) n
  end_told h = pair_path _ _ h.sums.bits h.sums.error

  module _ {b : ℕ} {each : List Chosen} (w : WonAt B n b each) where
    pub won_winners : Winners B n 1 b each
    won_winners = record { gives = λ i l. wins_gives (B i) (omega arith) (w.won i l).wins (w.won i l).smallest }

    pub total_won : Wins (Attains (λ i. Attained (B i)) n) 1 b (total (pair_at each) n)
    total_won = total_wins (λ i. Attained (B i)) n 1 b (pair_at each) (λ i l. (w.won i l).wins)

  module _ (limits : (i : ℕ) → i < n → Limits (B i)) where
    pub fewest : {b : ℕ} {each : List Chosen} → most_error < b → WonAt B n b each → Least (Attains (λ i. Attained (B i)) n) 0 1 (total (pair_at each) n)
    fewest {b} {each} h w =
        dearest_fewest (λ i. Attained (B i)) n b (pair_at each) (λ i l X x. omega (arith, attained_error (B i) (limits i l) x)) (λ i l. (w.won i l).wins)

    pub low_most : {budget : ℕ} {low high : End} → Brackets B n budget low high → low.price ≤ most_error
    low_most {low = low} k = go (dec_le low.price most_error)
      where
        go : Dec (low.price ≤ most_error) → low.price ≤ most_error
        go (yes l) = l
        go (no l) = absurd (omega (
          arith,
          k.passes,
          k.fits,
          k.low_end.sums.bits,
          k.high_end.sums.bits,
          fewest (omega arith) k.low_end.won _ (total_won k.high_end.won).attained,
        ))
