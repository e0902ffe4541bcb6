-- The way from a node up to the root: node j is met from node k by halving.
use Rattle.std.proofs.Common.{◌≡◌, ◌≢◌, ℕ, ◌/◌, refl, arith}

pub data Above : ℕ → ℕ → Type 0 where
  here : {k : ℕ} → Above k k
  up : {k j : ℕ} → Above (k / 2) j → Above k j

pub there : {k j : ℕ} → k ≡ j → Above k j
there e = rw e here

half_above : {k j : ℕ} → Above k j → Above k (j / 2)
half_above here = up here
half_above (up a) = up (half_above a)

pub parent_above : {k j p : ℕ} → Above k j → j / 2 ≡ p → Above k p
parent_above a e = rw e at (half_above a)

pub parents_above : {k j p : ℕ} → Above k j → j / 2 ≡ p → Above (k / 2) p
parents_above here e = there e
parents_above (up a) e = parent_above a e

pub next_above : {k j : ℕ} → Above k j → j ≢ k → Above (k / 2) j
next_above here n = absurd (n refl)
next_above (up a) n = a

pub none_above : {k j : ℕ} → Above k j → k ≡ 0 → j ≡ 0
none_above here e = e
none_above (up a) e = none_above a (omega arith)
