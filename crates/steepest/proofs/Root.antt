-- The root of a tournament wins over all: by steps down from the root it wins over the contestant at each node, and each contestant has its leaf.
use Rattle.std.proofs.Common.{◌≡◌, ℕ, zero, suc, ◌+◌, ◌*◌, ◌/◌, ◌<◌, ◌≤◌, List, length, slice_index, arith, refl, inl, inr}
use Rattle.std.proofs.lemmas.Bool.{cases_eq}
use Rattle.steepest.specs.Tournament.{WinsAt, IsTournament, IsTop}
use Rattle.steepest.proofs.Wins.{wins_itself, wins_through}

module _ {W : Type 0} (wins : W → W → Type 0) (reflexive : (x : W) → wins x x) (transitive : (x y z : W) → wins x y → wins y z → wins x z) (ways : List W) (seats : List ℕ)
    (t : IsTournament wins ways seats) where
  wins_child : (p j : ℕ) → j / 2 ≡ p → 1 ≤ p → p < length ways → WinsAt wins ways (slice_index seats p) (slice_index seats j)
  wins_child p j half some inner =
      let won = (t.node p some (omega arith)).inner inner in
      elim (cases_eq (2 * p) j) [
        | inl left ↦ rw left at won.over_first
        | inr other ↦ let right : 2 * p + 1 ≡ j = omega arith in rw right at won.over_second
      ]

  -- d bounds the way up
  root_wins : (d j : ℕ) → j ≤ d → 1 ≤ j → j < 2 * length ways → WinsAt wins ways (slice_index seats 1) (slice_index seats j)
  root_wins zero j deep some below = absurd (omega arith)
  root_wins (suc d) j deep some below = elim (cases_eq j 1) [
    | inl root ↦ rw root (wins_itself wins reflexive ways (slice_index seats 1))
    | inr other ↦
        wins_through wins transitive ways (slice_index seats 1) (slice_index seats (j / 2)) (slice_index seats j) (t.node (j / 2) (omega arith) (omega arith)).within
        (root_wins d (j / 2) (omega arith) (omega arith) (omega arith)) (wins_child (j / 2) j refl (omega arith) (omega arith))
  ]

  pub root_top : IsTop wins ways (slice_index seats 1)
  root_top =
      let some = t.some in
      record {
        within = (t.node 1 (omega arith) (omega arith)).within;
        wins_all = λ i inside. rw ((t.node (length ways + i) (omega arith) (omega arith)).leaf i refl) at
            (root_wins (length ways + i) (length ways + i) (omega arith) (omega arith) (omega arith));
      }
