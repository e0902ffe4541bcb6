-- What a write of a seat leaves of the nodes behind it, and what it makes; and a contestant sits only above its own leaf.
use Rattle.std.proofs.Common.{◌≡◌, ◌≢◌, ℕ, zero, suc, ◌+◌, ◌-◌, ◌*◌, ◌<◌, ◌≤◌, List, length, slice_index, slice_set, arith, inl, inr, get_or-set_other, get_or-set_same}
use Rattle.std.proofs.lemmas.Bool.{cases_eq, cases_lt}
use Rattle.steepest.specs.Tournament.{IsWinner, IsNode, IsTournament}
use Rattle.steepest.proofs.Above.{Above, there, parent_above}
use Rattle.steepest.proofs.Wins.{one_of}

module _ {W : Type 0} {wins : W → W → Type 0} {ways : List W} (seats : List ℕ) where
  module _ (k v : ℕ) (inside : k < length seats) where
    pub leaf_made : v < length ways → k ≡ length ways + v → IsNode wins ways (slice_set seats k v) k
    leaf_made within is_leaf =
        record {
          within = rw (get_or-set_same seats k v 0 inside) within;
          leaf = λ i e. rw (get_or-set_same seats k v 0 inside) (omega arith);
          inner = λ l. absurd (omega arith);
        }

    pub inner_made : 1 ≤ k → k < length ways → v < length ways → IsWinner wins ways (slice_index seats (2 * k)) (slice_index seats (2 * k + 1)) v
        → IsNode wins ways (slice_set seats k v) k
    inner_made some is_inner within won =
        let left : 2 * k ≢ k = omega arith in
        let right : 2 * k + 1 ≢ k = omega arith in
        record {
          within = rw (get_or-set_same seats k v 0 inside) within;
          leaf = λ i e. absurd (omega arith);
          inner = λ _. rw (get_or-set_other seats k (2 * k) v 0 left, get_or-set_other seats k (2 * k + 1) v 0 right, get_or-set_same seats k v 0 inside) won;
        }

  node_kept : (k v : ℕ) {j : ℕ} → j ≢ k → 2 * j ≢ k → 2 * j + 1 ≢ k → IsNode wins ways seats j → IsNode wins ways (slice_set seats k v) j
  node_kept k v {j} a b c node =
      record {
        within = rw (get_or-set_other seats k j v 0 a) node.within;
        leaf = λ i e. rw (get_or-set_other seats k j v 0 a) (node.leaf i e);
        inner = λ l. rw (get_or-set_other seats k (2 * j) v 0 b, get_or-set_other seats k (2 * j + 1) v 0 c, get_or-set_other seats k j v 0 a) (node.inner l);
      }

  -- after a write that makes node k, a node is right that is k, or was right and is not next above k
  pub node_made : (k v : ℕ) {j : ℕ} → IsNode wins ways (slice_set seats k v) k → (j ≢ k → (2 * j ≢ k) × (2 * j + 1 ≢ k) × IsNode wins ways seats j)
      → IsNode wins ways (slice_set seats k v) j
  node_made k v {j} made others = elim (cases_eq j k) [
    | inl same ↦ rw same made
    | inr other ↦ let o = others other in node_kept k v other o.0 o.1 o.2
  ]

  -- by induction from the leaves; d bounds how far the last one is
  pub home : IsTournament wins ways seats → (d j : ℕ) → 2 * length ways ≤ j + d → 1 ≤ j → j < 2 * length ways → Above (length ways + slice_index seats j) j
  home t zero j far some below = absurd (omega arith)
  home t (suc d) j far some below = elim (cases_lt j (length ways)) [
    | inl inner ↦
        let left = home t d (2 * j) (omega arith) (omega arith) (omega arith) in
        let right = home t d (2 * j + 1) (omega arith) (omega arith) (omega arith) in
        one_of (λ z. Above (length ways + z) j) (parent_above left (omega arith)) (parent_above right (omega arith)) ((t.node j some below).inner inner)
    | inr leaf ↦ there (omega (arith, (t.node j some below).leaf (j - length ways) (omega arith)))
  ]
