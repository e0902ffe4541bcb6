-- The ends of a bracket are what a course sets out from and its goals; set out, it walks within the budget to beyond it.
use Rattle.std.proofs.Common.{◌≡◌, ℕ, List, length, take, ap, ◌∙◌, arith}
use Rattle.std.proofs.lemmas.List.{get_or-take}
use Rattle.block.specs.Block.{Block}
use Rattle.corners.specs.Pair.{Pair}
use Rattle.corners.specs.Still.{total}
use Rattle.corners.proofs.Sums.{total_same}
use Rattle.forward.specs.declared.Chosen.{Chosen}
use Rattle.attained.specs.Chosen.{none, pair_in, pair_at}
use Rattle.still.specs.declared.Still.{Still}
use Rattle.still.specs.Blocks.{block_in, count_of}
use Rattle.winners.specs.Winners.{Winners}
use Rattle.halving.specs.declared.End.{End}
use Rattle.halving.specs.Won.{WonAt}
use Rattle.halving.specs.Brackets.{Brackets}
use Rattle.halving.proofs.Ends.{won_same}
use Rattle.merge.specs.declared.Course.{Course}
use Rattle.merge.specs.Standing.{corner_at}
use Rattle.merge.specs.SettingOut.{Ends, SetOut}
use Rattle.fitting.specs.Fitting.{Walks}
use Rattle.budget_job.proofs.Winning.{won_winners, total_won}

first_winners : {B : ℕ → Block} {m n b : ℕ} {each : List Chosen} → m ≡ n → WonAt B n b each → Winners B n 1 b (take m each)
first_winners {m = m} {each = each} e w = won_winners (won_same (λ i l. get_or-take m each i none (omega arith)) w)

module _ {still : Still} {n budget : ℕ} {low high : End} (k : Brackets (block_in still) (count_of still) budget low high) (e : n ≡ count_of still) where
  pub bracket_ends : length (take n high.each) ≡ n → length (take n low.each) ≡ n → Ends still low.price (take n high.each) (take n low.each)
  bracket_ends h l = record {
    high = high.price;
    above = k.rises;
    winners = first_winners e k.high_end.won;
    goals_win = first_winners e k.low_end.won;
    from_count = omega (arith, h, e);
    goals_count = omega (arith, l, e);
  }

  pub bracket_walks : {c : Course} → SetOut still low.price (take n high.each) c → Walks c budget
  bracket_walks {c} s =
      let t = total_same (corner_at c) (pair_at high.each) (count_of still)
      (λ i l. ap pair_in (s.present i l ∙ get_or-take n high.each i none (omega arith))) in
      let q = ap (λ (m : ℕ). (total (corner_at c) m).bits) (ap count_of s.still_is) in
      record {
        a = s.a;
        b = s.b;
        standing = s.standing;
        goal = total (pair_at low.each) (count_of still);
        wins = rw (s.still_is, s.low_is) (total_won k.low_end.won);
        beyond = omega (arith, k.passes, k.low_end.sums.bits);
        within = omega (arith, k.fits, k.high_end.sums.bits, s.standing.together.bits, q, ap (λ (P : Pair). P.bits) t);
      }
