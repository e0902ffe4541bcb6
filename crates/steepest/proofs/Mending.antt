-- The tournament while it is mended: the nodes are right but those above node k, and the nodes above a contestant's leaf are the only ones that its change can make wrong.
use Rattle.std.proofs.Common.{◌≡◌, ◌≢◌, ℕ, ◌+◌, ◌-◌, ◌*◌, ◌/◌, ◌<◌, ◌≤◌, List, length, slice_index, slice_set, arith, refl, sym, ◌∙◌, inl, inr, length-set, get_or-set_other, get_or-set_same}
use Rattle.std.proofs.lemmas.Bool.{cases_eq}
use Rattle.steepest.specs.Tournament.{WinsAt, IsWinner, IsNode, IsTournament, IsStale}
use Rattle.steepest.proofs.Above.{Above, there, parents_above, next_above, none_above}
use Rattle.steepest.proofs.Wins.{swapped, one_of}
use Rattle.steepest.proofs.Node.{inner_made, node_made, home}

pub record Mending {W : Type 0} (wins : W → W → Type 0) (ways : List W) (seats : List ℕ) (k : ℕ) : Type 0 where
  pub room : 2 * length ways ≤ length seats
  pub within : (j : ℕ) → 1 ≤ j → j < 2 * length ways → slice_index seats j < length ways
  pub node : (j : ℕ) → 1 ≤ j → j < 2 * length ways → (Above (k / 2) j → ⊥) → IsNode wins ways seats j

module _ {W : Type 0} {wins : W → W → Type 0} {ways : List W} {seats : List ℕ} where
  module _ {i : ℕ} (stale : IsStale wins ways seats i) where
    -- a duel in which contestant i has no part
    same_win : (x y : ℕ) → x ≢ i → y ≢ i → WinsAt wins stale.before x y → WinsAt wins ways x y
    same_win x y p q won a b is_a is_b = won a b (sym (stale.same_others x p) ∙ is_a) (sym (stale.same_others y q) ∙ is_b)

    same_duel : {x y z : ℕ} → x ≢ i → y ≢ i → IsWinner wins stale.before x y z → IsWinner wins ways x y z
    same_duel {x} {y} {z} p q was =
        let r : z ≢ i = one_of (λ (c : ℕ). c ≢ i) p q was in
        record { one = was.one; over_first = same_win z x r p was.over_first; over_second = same_win z y r q was.over_second }

    pub own_leaf : slice_index seats (length ways + i) ≡ i
    own_leaf =
        let inside = stale.inside in
        let same = stale.same_count in
        (stale.was.node (length ways + i) (omega arith) (omega arith)).leaf i (omega arith)

    -- a node that holds contestant i is on the way up from its leaf
    elsewhere : (j c : ℕ) → 1 ≤ c → c < 2 * length ways → c / 2 ≡ j → (Above ((length ways + i) / 2) j → ⊥) → slice_index seats c ≢ i
    elsewhere j c some below e not_above holds =
        let same = stale.same_count in
        let from_leaf : Above (length ways + i) c = rw (sym same, holds) at (home seats stale.was (2 * length ways) c (omega arith) some (omega arith)) in
        not_above (parents_above from_leaf e)

    pub mending_start : Mending wins ways seats (length ways + i)
    mending_start =
        let same = stale.same_count in
        let room = stale.was.room in
        record {
          room = omega arith;
          within = λ j some below. omega (arith, (stale.was.node j some (omega arith)).within);
          node = λ j some below not_above.
              let was = stale.was.node j some (omega arith) in
              record {
                within = omega (arith, was.within);
                leaf = λ l e. was.leaf l (omega arith);
                inner = λ inner. same_duel (elsewhere j (2 * j) (omega arith) (omega arith) (omega arith) not_above)
                    (elsewhere j (2 * j + 1) (omega arith) (omega arith) (omega arith) not_above) (was.inner (omega arith));
              };
        }

-- node k is on the left or on the right below its parent p
in_order : {W : Type 0} {wins : W → W → Type 0} {ways : List W} (seats : List ℕ) {z : ℕ} (k p : ℕ) → k / 2 ≡ p → IsWinner wins ways (slice_index seats k) (slice_index seats (4 * p + 1 - k)) z
    → IsWinner wins ways (slice_index seats (2 * p)) (slice_index seats (2 * p + 1)) z
in_order seats k p half won = elim (cases_eq k (2 * p)) [
  | inl left ↦ let right : 4 * p + 1 - k ≡ 2 * p + 1 = omega arith in rw (right, left) at won
  | inr other ↦
      let left : 4 * p + 1 - k ≡ 2 * p = omega arith in
      let right : k ≡ 2 * p + 1 = omega arith in
      swapped (rw (left, right) at won)
]

module _ {W : Type 0} {wins : W → W → Type 0} {ways : List W} {seats : List ℕ} where
  module _ {k : ℕ} (now : Mending wins ways seats k) where
    pub mending_end : 1 ≤ length ways → k < 2 → IsTournament wins ways seats
    mending_end some small =
        record {
          some = some;
          room = now.room;
          node = λ j p q. now.node j p q (λ above. let none : j ≡ 0 = none_above above (omega arith) in omega arith);
        }

    module _ {z : ℕ} (low : 2 ≤ k) (high : k < 2 * length ways) (won : IsWinner wins ways (slice_index seats k) (slice_index seats (4 * (k / 2) + 1 - k)) z) where
      pub mending_step : Mending wins ways (slice_set seats (k / 2) z) (k / 2)
      mending_step =
          let room = now.room in
          let z_within = one_of (λ (x : ℕ). x < length ways) (now.within k (omega arith) high) (now.within (4 * (k / 2) + 1 - k) (omega arith) (omega arith)) won in
          let inside : k / 2 < length seats = omega arith in
          let made = inner_made {wins = wins} {ways = ways} seats (k / 2) z inside (omega arith) (omega arith) z_within (in_order seats k (k / 2) refl won) in
          record {
            room = omega (arith, length-set seats (k / 2) z);
            within = λ j p q. elim (cases_eq j (k / 2)) [
              | inl same ↦ rw (same, get_or-set_same seats (k / 2) z 0 inside) z_within
              | inr other ↦ rw (get_or-set_other seats (k / 2) j z 0 other) (now.within j p q)
            ];
            node = λ j p q not_above. node_made seats (k / 2) z made
                (λ other. (λ e. not_above (there (omega arith)), λ e. not_above (there (omega arith)), now.node j p q (λ above. not_above (next_above above other))));
          }
