-- Who wins at two indexes, by the laws of the contest: each over itself, and over all whom one wins over who is won over. The winner of two is the one that wins over the other.
use Rattle.std.proofs.Common.{◌≡◌, ℕ, ◌<◌, List, length, get_or, arith, refl, sym, subst, ◌∙◌, inl, inr}
use Rattle.std.proofs.lemmas.Bool.{cases_eq}
use Rattle.std.proofs.lemmas.Option.{slice_get_cases, get_or_from_slice_get}
use Rattle.steepest.specs.Tournament.{WinsAt, IsWinner}

-- at two contestants that were read
pub wins_read : {W : Type 0} (wins : W → W → Type 0) (ways : List W) (x y : ℕ) (a b : W) → a ≡ get_or ways x a → b ≡ get_or ways y b → wins a b → WinsAt wins ways x y
wins_read wins ways x y a b a_read b_read won a' b' is_a is_b =
    let same_a : a' ≡ a = sym (get_or_from_slice_get ways x a' a is_a) ∙ sym a_read in
    let same_b : b' ≡ b = sym (get_or_from_slice_get ways y b' b is_b) ∙ sym b_read in
    rw (same_a, same_b) won

-- what holds of both holds of the winner
pub one_of : {W : Type 0} {wins : W → W → Type 0} {ways : List W} {x y z : ℕ} (P : ℕ → Type 0) → P x → P y → IsWinner wins ways x y z → P z
one_of {x = x} {z = z} P p q won = elim (cases_eq z x) [ inl first ↦ rw first p | inr other ↦ rw (won.one other) q ]

pub swapped : {W : Type 0} {wins : W → W → Type 0} {ways : List W} {x y z : ℕ} → IsWinner wins ways x y z → IsWinner wins ways y x z
swapped {x = x} {z = z} won = record {
  one = λ not_second. elim (cases_eq z x) [ inl first ↦ first | inr other ↦ absurd (not_second (won.one other)) ];
  over_first = won.over_second;
  over_second = won.over_first;
}

pub wins_itself : {W : Type 0} (wins : W → W → Type 0) → ((x : W) → wins x x) → (ways : List W) (x : ℕ) → WinsAt wins ways x x
wins_itself wins reflexive ways x a b is_a is_b =
    let same : a ≡ b = sym (get_or_from_slice_get ways x a a is_a) ∙ get_or_from_slice_get ways x b a is_b in
    subst (wins a) same (reflexive a)

-- the one of two that wins over the other is their winner
module _ {W : Type 0} (wins : W → W → Type 0) (reflexive : (x : W) → wins x x) (ways : List W) (x y : ℕ) where
  pub first_wins : WinsAt wins ways x y → IsWinner wins ways x y x
  first_wins won = record { one = λ other. absurd (other refl); over_first = wins_itself wins reflexive ways x; over_second = won }

  pub second_wins : WinsAt wins ways y x → IsWinner wins ways x y y
  second_wins won = record { one = λ _. refl; over_first = won; over_second = wins_itself wins reflexive ways y }

pub wins_through : {W : Type 0} (wins : W → W → Type 0) → ((x y z : W) → wins x y → wins y z → wins x z) → (ways : List W) (x y z : ℕ)
    → y < length ways → WinsAt wins ways x y → WinsAt wins ways y z → WinsAt wins ways x z
wins_through wins transitive ways x y z inside over under a c is_a is_c = elim (slice_get_cases ways y).1 [
  | inl found ↦ transitive a found.0 c (over a found.0 is_a found.2) (under found.0 c found.2 is_c)
  | inr past ↦ absurd (omega arith)
]
