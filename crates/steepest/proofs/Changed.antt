-- A caller that changes one contestant holds a stale tournament.
use Rattle.std.proofs.Common.{◌≡◌, ◌≢◌, ℕ, ◌<◌, ◌≤◌, List, length, take, slice_set, arith, length-set}
use Rattle.std.proofs.Math.Seq.{take-set-lt}
use Rattle.std.proofs.lemmas.List.{length-take-le}
use Rattle.std.proofs.lemmas.Grind.{common_steps}
use Rattle.std.proofs.lemmas.Option.{gets}
use Rattle.std.specs.List.{slice_get}
use Rattle.steepest.specs.Tournament.{IsTournament, IsStale}

module _ {W : Type 0} where
  slice_get-set_other : (ways : List W) (i j : ℕ) (w : W) → j ≢ i → slice_get (slice_set ways i w) j ≡ slice_get ways j
  slice_get-set_other ways i j w other = grind (arith, common_steps, gets)

  pub IsStale-set : {wins : W → W → Type 0} (ways : List W) (seats : List ℕ) (i : ℕ) (w : W) → i < length ways → IsTournament wins ways seats
      → IsStale wins (slice_set ways i w) seats i
  IsStale-set ways seats i w inside tournament = record {
    before = ways;
    was = tournament;
    inside = omega (arith, inside, length-set ways i w);
    same_count = length-set ways i w;
    same_others = λ j other. slice_get-set_other ways i j w other;
  }

  -- the same where only the first n of a longer array play
  pub IsStale-take_set : {wins : W → W → Type 0} (ways : List W) (seats : List ℕ) (n i : ℕ) (w : W) → i < n → n ≤ length ways → IsTournament wins (take n ways) seats
      → IsStale wins (take n (slice_set ways i w)) seats i
  IsStale-take_set ways seats n i w plays long tournament =
      rw (take-set-lt n ways i w plays) (IsStale-set (take n ways) seats i w (omega (arith, length-take-le n ways long)) tournament)
