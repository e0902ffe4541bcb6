-- A tournament of n contestants: node 1 is the root, nodes 2k and 2k + 1 are below node k, node n + i is contestant i's leaf.
use Rattle.std.specs.Prelude.{◌≡◌, ◌≢◌, ℕ, ◌+◌, ◌*◌, ◌≤◌, ◌<◌, List, length, slice_index, slice_get, Some}

-- contestant x wins over contestant y
abbrev pub WinsAt : {W : Type 0} → (W → W → Type 0) → List W → ℕ → ℕ → Type 0
WinsAt {W} wins ways x y = (a b : W) → slice_get ways x ≡ Some a → slice_get ways y ≡ Some b → wins a b

-- z is one of x and y, and wins over both
pub record IsWinner {W : Type 0} (wins : W → W → Type 0) (ways : List W) (x y z : ℕ) : Type 0 where
  pub one : z ≢ x → z ≡ y
  pub over_first : WinsAt wins ways z x
  pub over_second : WinsAt wins ways z y

-- a leaf holds its contestant, a node inside the winner of the two below it
pub record IsNode {W : Type 0} (wins : W → W → Type 0) (ways : List W) (seats : List ℕ) (k : ℕ) : Type 0 where
  pub within : slice_index seats k < length ways
  pub leaf : (i : ℕ) → k ≡ length ways + i → slice_index seats k ≡ i
  pub inner : k < length ways → IsWinner wins ways (slice_index seats (2 * k)) (slice_index seats (2 * k + 1)) (slice_index seats k)

pub record IsTournament {W : Type 0} (wins : W → W → Type 0) (ways : List W) (seats : List ℕ) : Type 0 where
  pub some : 1 ≤ length ways
  pub room : 2 * length ways ≤ length seats
  pub node : (k : ℕ) → 1 ≤ k → k < 2 * length ways → IsNode wins ways seats k

-- the tournament of contestants (`before`) that were the present ones but for contestant i
pub record IsStale {W : Type 0} (wins : W → W → Type 0) (ways : List W) (seats : List ℕ) (i : ℕ) : Type 0 where
  pub before : List W
  pub was : IsTournament wins before seats
  pub inside : i < length ways
  pub same_count : length ways ≡ length before
  pub same_others : (j : ℕ) → j ≢ i → slice_get ways j ≡ slice_get before j

-- contestant x wins over each
pub record IsTop {W : Type 0} (wins : W → W → Type 0) (ways : List W) (x : ℕ) : Type 0 where
  pub within : x < length ways
  pub wins_all : (i : ℕ) → i < length ways → WinsAt wins ways x i
