-- What the functions of the search promise each other: no public contract speaks of it.
use Rattle.std.specs.Prelude.{◌≡◌, List, [], ◌∷◌, ℕ, ◌+◌, ◌-◌, ◌*◌, ◌^◌, ◌≤◌, ◌<◌, true, ltb, get_or}
use Rattle.block.specs.First.{pick}
use Rattle.block.specs.Block.{Block}
use Rattle.block.specs.Choice.{keep_number}
use Rattle.price.specs.Best.{cost}
use Rattle.forward.specs.Bits.{is_full, priced}
use Rattle.forward.specs.Chain.{sum, stem, Candidate, NoCandidate}
use Rattle.forward.specs.Given.{level_at, Given}
use Rattle.forward.specs.Nodes.{node_at}
use Rattle.forward.specs.declared.Chosen.{Chosen}
use Rattle.forward.specs.declared.level.Level.{Level}
use Rattle.forward.specs.declared.level.Gathered.{Gathered}
use Rattle.forward.specs.declared.nodes.Nodes.{Nodes}
use Rattle.forward.specs.declared.table.Rates.{Rates}
use Rattle.forward.specs.declared.table.Table.{Table}
use Rattle.forward.specs.declared.table.TheConstants.{FAR, SAVED}

-- the bits of going on to entry `at` from node j
abbrev pub edge : List ℕ → ℕ → Nodes → ℕ → ℕ
edge bits at nodes j = get_or bits (at - (node_at nodes j).place) 0

-- cost and bits of the choice that does so
abbrev pub cost_at : ℕ → List ℕ → ℕ → Nodes → ℕ → ℕ
cost_at b bits at nodes j = (node_at nodes j).cost + priced b (edge bits at nodes j)

abbrev pub bit_at : List ℕ → ℕ → Nodes → ℕ → ℕ
bit_at bits at nodes j = (node_at nodes j).sum + edge bits at nodes j

-- the same at the rates of a table
abbrev pub cost_by : Rates → ℕ → Nodes → ℕ → ℕ
cost_by rates at nodes = cost_at rates.price.b rates.table.now.bits at nodes

abbrev pub bit_by : Rates → ℕ → Nodes → ℕ → ℕ
bit_by rates at nodes = bit_at rates.table.now.bits at nodes

-- what makes the reads and sums of a scan of the nodes below i sound
pub record Reach (nodes : Nodes) (i at : ℕ) : Type 0 where
  pub place_most : (j : ℕ) → j < i → (node_at nodes j).place ≤ at
  pub cost_most : (j : ℕ) → j < i → (node_at nodes j).cost ≤ FAR
  pub sum_most : (j : ℕ) → j < i → (node_at nodes j).sum ≤ 4096

-- of two nodes the first: by cost, then bits, then index
pub data Ahead (c n i d m j : ℕ) : Type 0 where
  cheaper : c < d → Ahead c n i d m j
  shorter : c ≡ d → n < m → Ahead c n i d m j
  earlier : c ≡ d → n ≡ m → i ≤ j → Ahead c n i d m j

-- the first of those below i, by cost c and bits n
pub data Earliest (c n : ℕ → ℕ) (i best at : ℕ) : Type 0 where
  none : best ≡ FAR → at ≡ 0 → ((j : ℕ) → j < i → FAR ≤ c j) → Earliest c n i best at
  some : at < i → best < FAR → best ≡ c at → ((j : ℕ) → j < i → Ahead (c at) (n at) at (c j) (n j) j) → Earliest c n i best at

-- the first of those below i by cost alone: it is the first whatever the bits are
pub record EarliestAlone (c : ℕ → ℕ) (i best at : ℕ) : Type 0 where
  pub first : (n : ℕ → ℕ) → Earliest c n i best at

-- a cost that only the nodes from low on have
unfoldable pub cost_from : ℕ → (ℕ → ℕ) → ℕ → ℕ
cost_from low c j = pick (ltb j low) FAR (c j)

-- a node from low to i costs less than node j
pub record Beats (c : ℕ → ℕ) (low i j : ℕ) : Type 0 where
  pub at : ℕ
  pub from_low : low ≤ at
  pub under : at < i
  pub less : c at < c j

-- no node below low is the first of those below i
pub record Behind (c : ℕ → ℕ) (low i : ℕ) : Type 0 where
  pub most : low ≤ i
  pub beaten : (j : ℕ) → j < low → Beats c low i j

-- a cost and what a longer run saves at most
abbrev pub bound : ℕ → List ℕ → Nodes → ℕ → ℕ
bound b bits nodes k = (node_at nodes k).cost + b * get_or bits SAVED 0

-- the same whatever the target is: a later node costs less by more than what a longer run saves
pub record Outdone (b : ℕ) (bits : List ℕ) (nodes : Nodes) (low n j : ℕ) : Type 0 where
  pub at : ℕ
  pub from_low : low ≤ at
  pub under : at < n
  pub less : bound b bits nodes at < (node_at nodes j).cost

pub record Beaten (b : ℕ) (bits : List ℕ) (nodes : Nodes) (low n : ℕ) : Type 0 where
  pub under : low < n
  pub full : 0 < low → is_full bits ≡ true
  pub outdone : (j : ℕ) → j < low → Outdone b bits nodes low n j

-- what makes forgetting by node i sound, and which nodes it forgets
pub record Forgetting (nodes : Nodes) (low i : ℕ) : Type 0 where
  pub most : low ≤ i
  pub inside : i < 64
  pub cost_most : (node_at nodes i).cost ≤ FAR

pub record Forgot (b : ℕ) (bits : List ℕ) (nodes : Nodes) (low i r : ℕ) : Type 0 where
  pub from_low : low ≤ r
  pub most : r ≤ i
  pub full : low < r → is_full bits ≡ true
  pub outdone : (j : ℕ) → low ≤ j → j < r → bound b bits nodes i < (node_at nodes j).cost

-- the way back from node i
abbrev pub Trail : Nodes → ℕ → List ℕ → Type 0
Trail nodes i [] = i ≡ 0
Trail nodes i (k ∷ r) = (0 < i) × ((node_at nodes i).pred < i) × ((node_at nodes i).place ≡ k) × Trail nodes (node_at nodes i).pred r

-- node i: no chain ends there, or its cost, bits and way back are those of the candidate
pub data Ending (B : Block) (a b : ℕ) (nodes : Nodes) (i : ℕ) : Type 0 where
  none : (node_at nodes i).cost ≡ FAR → (node_at nodes i).sum ≤ 4096 → NoCandidate B (node_at nodes i).place → Ending B a b nodes i
  some : (r : List ℕ) → Candidate B a b (node_at nodes i).place r → Trail nodes i r → (node_at nodes i).cost ≡ cost a b (stem B r 0) → (node_at nodes i).sum ≡ sum B r → Ending B a b nodes i

-- the nodes below n are made
pub record Filled (a b : ℕ) (t : Table) (g : Gathered) (nodes : Nodes) (n : ℕ) : Type 0 where
  pub places : (j : ℕ) → j < n → (node_at nodes j).place ≡ (level_at g.levels j).place
  pub endings : (B : Block) → Given B t g → (i : ℕ) → i < n → Ending B a b nodes i

-- the error that a way back saves
abbrev pub gain : List Level → Nodes → ℕ → List ℕ → ℕ
gain levels nodes i [] = 0
gain levels nodes i (k ∷ r) = (level_at levels i).drop + gain levels nodes (node_at nodes i).pred r

pub record Backed (levels : List Level) (total : ℕ) (nodes : Nodes) (at : ℕ) : Type 0 where
  pub way : List ℕ
  pub trail : Trail nodes at way
  pub at_most : at < 64
  pub under : (i : ℕ) → i ≤ at → (node_at nodes i).place < 64
  pub keep_most : keep_number way < 2 ^ 64
  pub gain_most : gain levels nodes at way ≤ total

pub record Walked (levels : List Level) (total : ℕ) (nodes : Nodes) (at bit : ℕ) (p : Chosen) (r : List ℕ) : Type 0 where
  pub bits_is : p.bits.0 ≡ bit
  pub error_is : p.error.0 + gain levels nodes at r ≡ total
  pub keep_is : p.keep ≡ keep_number r

pub record Walks (levels : List Level) (total : ℕ) (nodes : Nodes) (at bit : ℕ) (p : Chosen) : Type 0 where
  pub walked : (r : List ℕ) → Trail nodes at r → Walked levels total nodes at bit p r
