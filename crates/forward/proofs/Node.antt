-- The next node follows from the nodes before it.
use mathlib.Core.Path.{◌≡◌, refl, sym, subst, ap, ◌∙◌}
use mathlib.Core.List.{List, [], ◌∷◌}
use Prim.Native.Nat.{ℕ, ◌+◌, ◌-◌, ◌*◌, ◌≤◌, ◌<◌}
use native.Mathlib.Decide.{dec_lt}
use native.Mathlib.Omega.{arith}
use borrow.Author.Count.{below_more}
use lib.ListN.{length, get_or}
use Rattle.std.proofs.Common.{slice_set}
use lib.Seq.{get_or-set_same, get_or-set_other}
use Rattle.block.specs.Block.{Block, LevelCode, level_bits}
use Rattle.block.specs.Limits.{most_bits}
use Rattle.block.proofs.Bounds.{level_most}
use Rattle.price.specs.Accepted.{Accepted}
use Rattle.price.specs.Best.{cost, Before}
use Rattle.forward.specs.declared.level.Gathered.{Gathered}
use Rattle.forward.specs.declared.nodes.Node.{Node}
use Rattle.forward.specs.declared.nodes.Nodes.{Nodes}
use Rattle.forward.specs.declared.table.Table.{Table}
use Rattle.forward.specs.declared.table.TheConstants.{FAR}
use Rattle.forward.specs.Bits.{Entry}
use Rattle.forward.specs.Given.{level_at, Met, Given}
use Rattle.forward.specs.Chain.{top, Chain, Coded, sum, miss, stem}
use Rattle.forward.specs.Nodes.{node_at, put}
use Rattle.forward.specs.Scanning.{edge, cost_at, bit_at, Reach, Earliest, Earliest.none as e-none, Earliest.some as e-some, Trail, Ending, Ending.none as n-none, Ending.some as n-some}
use Rattle.forward.proofs.Chain.{extend, extend_none, miss_more, sum_most}
use Rattle.forward.proofs.Winner.{fits, Winner, Winner.none as w-none, Winner.some as w-some, winner}

pub earliest_under : {c n : ℕ → ℕ} {i best at : ℕ} → 0 < i → Earliest c n i best at → at < i
earliest_under h (e-none e z l) = omega arith
earliest_under h (e-some l f e m) = l

pub earliest_most : {c n : ℕ → ℕ} {i best at : ℕ} → Earliest c n i best at → best ≤ FAR
earliest_most (e-none e z l) = omega arith
earliest_most (e-some l f e m) = omega arith

-- what rises comes before where it is lower
pub index_under : (f : ℕ → ℕ) (m : ℕ) → ((i j : ℕ) → i < j → j ≤ m → f i < f j) → (i j : ℕ) → j ≤ m → f j < f i → j < i
index_under f m rises i j h l =
    elim (dec_lt j i) [
      | yes g ↦ g
      | no g ↦
          absurd
          (elim (dec_lt i j) [
            | yes d ↦ omega (arith, rises i j d h)
            | no d ↦ let e : i ≡ j = omega arith in omega (arith, ap f e)
          ])
    ]

-- a cost less what keeping a level gains; none stays none
pub record Reduced (c gain r : ℕ) : Type 0 where
  pub none : c ≡ FAR → r ≡ FAR
  pub some : c < FAR → r + gain ≡ c

-- what one write makes, and what it leaves of the numbers before it
pub made : (xs : List ℕ) (i v : ℕ) → i < length xs → get_or (slice_set xs i v) i 0 ≡ v
made xs i v h = get_or-set_same xs i v 0 h

pub kept : (xs : List ℕ) (i v j : ℕ) → j < i → get_or (slice_set xs i v) j 0 ≡ get_or xs j 0
kept xs i v j h = get_or-set_other xs i j v 0 (λ e. omega arith)

-- node i is within the arrays
pub record Within (nodes : Nodes) (i : ℕ) : Type 0 where
  pub place : i < length nodes.place
  pub cost : i < length nodes.cost
  pub sum : i < length nodes.sum
  pub pred : i < length nodes.pred

trail_put : (nodes : Nodes) (i : ℕ) (node : Node) (j : ℕ) (r : List ℕ) → j < i → Trail nodes j r → Trail (put nodes i node) j r
trail_put nodes i node j [] h t = t
trail_put nodes i node j (k ∷ r) h t =
    rw (kept nodes.pred i node.pred j h, kept nodes.place i node.place j h) (t.0, t.1, t.2, trail_put nodes i node (node_at nodes j).pred r (omega (arith, t.1)) t.3)

ending_put : (B : Block) (a b : ℕ) (nodes : Nodes) (i : ℕ) (node : Node) (j : ℕ) → j < i → Ending B a b nodes j → Ending B a b (put nodes i node) j
ending_put B a b nodes i node j h (n-none p q u) =
    n-none (rw (kept nodes.cost i node.cost j h) p) (rw (kept nodes.sum i node.sum j h) q) (rw (kept nodes.place i node.place j h) u)
ending_put B a b nodes i node j h (n-some r c t p q) =
    n-some r (rw (kept nodes.place i node.place j h) c) (trail_put nodes i node j r h t) (rw (kept nodes.cost i node.cost j h) p) (rw (kept nodes.sum i node.sum j h) q)

module _ (B : Block) (a b : ℕ) (price : Accepted a b) (t : Table) (block : Gathered) (G : Given B t block) where
  abbrev place : ℕ → ℕ
  place i = (level_at block.levels i).place

  -- every chain ends at a level
  pub record Ends (o : List ℕ) : Type 0 where
    pub at : ℕ
    pub high : at ≤ block.count
    pub is : top o ≡ (level_at block.levels at).place

  pub ends_at : (o : List ℕ) → Chain B o → Ends o
  ends_at [] u = record { at = 0; high = omega arith; is = sym G.gathered.start }
  ends_at (k ∷ o) u =
      let e : Met block k = G.gathered.every k (omega (arith, u.0)) u.1 u.2 in
      record { at = e.at; high = e.high; is = sym e.is }

  module _ (nodes : Nodes) (i : ℕ) (P : (j : ℕ) → j < i → (node_at nodes j).place ≡ (level_at block.levels j).place) (N : (j : ℕ) → j < i → Ending B a b nodes j) where
    node_most : (j : ℕ) → j < i → j ≤ block.count → ((node_at nodes j).cost ≤ FAR) × ((node_at nodes j).sum ≤ 4096)
    node_most j h g = go (N j h)
      where
        go : Ending B a b nodes j → ((node_at nodes j).cost ≤ FAR) × ((node_at nodes j).sum ≤ 4096)
        go (n-none p q u) = (omega (arith, p), q)
        go (n-some r c s p q) =
            let f : (cost a b (stem B r 0) + b * 0 < FAR) × (sum B r + 0 ≤ most_bits) =
            fits B a b G.limits price r 0 c.chain (omega (arith, c.ends, P j h, G.gathered.under j g)) in
            (omega (arith, f.0, p), omega (arith, f.1, q))

    pub reach_of : (at : ℕ) → i ≤ block.count + 1 → ((j : ℕ) → j < i → (node_at nodes j).place ≤ at) → Reach nodes i at
    reach_of at h w = record { place_most = w; cost_most = λ j g. (node_most j g (omega arith)).0; sum_most = λ j g. (node_most j g (omega arith)).1 }

    -- the next node
    module _ (at : ℕ) (low : 0 < i) (high : i ≤ block.count) (at-is : at ≡ (level_at block.levels i).size * 64 + (level_at block.levels i).place - 1) where
      abbrev k : ℕ
      k = (level_at block.levels i).place

      under : k < 64
      under = G.gathered.under i high

      sized : 0 < B.size k
      sized = G.gathered.sized i low high

      before : (j : ℕ) → j < i → (node_at nodes j).place < k
      before j h = omega (arith, P j h, G.gathered.rises j i h high)

      at_size : at ≡ B.size k * 64 + k - 1
      at_size = at-is ∙ ap (λ (s : ℕ). s * 64 + k - 1) (G.gathered.size_is i low high)

      pub level_reach : Reach nodes i at
      level_reach = reach_of at (omega arith) (λ j h. omega (arith, at_size, before j h, sized))

      abbrev Q : ℕ → Type 0
      Q q = LevelCode B.len (k - q - 1) (B.size k)

      abbrev w : ℕ → ℕ
      w q = level_bits B.len (k - q - 1) (B.size k)

      entry_at : (j : ℕ) → j < i → Entry (Q (node_at nodes j).place) (w (node_at nodes j).place) (edge t.bits at nodes j)
      entry_at j h =
          let e : B.size k * 64 + (k - (node_at nodes j).place - 1) ≡ at - (node_at nodes j).place = omega (arith, at_size, before j h) in
          subst (λ (x : ℕ). Entry (Q (node_at nodes j).place) (w (node_at nodes j).place) (get_or t.bits x 0)) e
          (G.table.levels (B.size k) (k - (node_at nodes j).place - 1) sized (G.limits.size_most k) (omega (arith, under, before j h)))

      small_at : (j : ℕ) → j < i → w (node_at nodes j).place + 26 * (node_at nodes j).place ≤ most_bits
      small_at j h = omega (arith, under, before j h, level_most B.len G.limits.len_most (k - (node_at nodes j).place - 1) (B.size k) (G.limits.size_most k))

      rises : (j l : ℕ) → j < l → l < i → (node_at nodes j).place < (node_at nodes l).place
      rises j l h g = omega (arith, P j (omega arith), P l g, G.gathered.rises j l h (omega arith))

      level_winner : (best j : ℕ) → Earliest (cost_at b t.bits at nodes) (bit_at t.bits at nodes) i best j → Winner B a b nodes Q w (edge t.bits at nodes) i best j
      level_winner best j h = winner B a b G.limits price nodes Q w (edge t.bits at nodes) i N rises entry_at small_at best j h

      -- a node below i with a given chain behind it
      level_least : (R : List ℕ → ℕ → Type 0) → ((j : ℕ) → j < i → (o : List ℕ) → Chain B o → Coded B o → top o ≡ (node_at nodes j).place → Q (node_at nodes j).place → R o (node_at nodes j).place)
          → (o : List ℕ) → Chain B o → Coded B o → top o < k → Q (top o) → R o (top o)
      level_least R f o u v h =
          let e : Ends o = ends_at o u in
          let l : e.at < i = index_under place block.count G.gathered.rises i e.at e.high (omega (arith, e.is)) in
          let is : top o ≡ (node_at nodes e.at).place = e.is ∙ sym (P e.at l) in
          subst (λ (q : ℕ). Q q → R o q) (sym is) (f e.at l o u v is)

      drop_most : (r : List ℕ) (j : ℕ) → j < i → top r ≡ (node_at nodes j).place → miss B (k ∷ r) + B.drops k ≡ miss B r
      drop_most r j h e = omega (arith, miss_more B k r (omega (arith, before j h)) under, G.plain k)

      pub reduces : (best j : ℕ) → Earliest (cost_at b t.bits at nodes) (bit_at t.bits at nodes) i best j → best < FAR → a * (level_at block.levels i).drop ≤ best
      reduces best j h f = go (level_winner best j h)
        where
          go : Winner B a b nodes Q w (edge t.bits at nodes) i best j → a * (level_at block.levels i).drop ≤ best
          go (w-none e z l) = absurd (omega arith)
          go (w-some r l c s q e g n m) = omega (arith, ap (λ (x : ℕ). a * x) (drop_most r j l c.ends), ap (λ (x : ℕ). a * x) (G.gathered.error_is i low high))

      module _ (best j : ℕ) (h : Earliest (cost_at b t.bits at nodes) (bit_at t.bits at nodes) i best j) (y : ℕ) (R : Reduced best (a * (level_at block.levels i).drop) y) (inside : Within nodes i) where
        abbrev node : Node
        node = record { place = k; cost = y; sum = bit_at t.bits at nodes j; pred = j }

        first_sums : Ending B a b nodes 0 → (node_at nodes 0).sum ≤ most_bits
        first_sums (n-none p q u) = absurd (u [] tt tt (sym (P 0 low ∙ G.gathered.start)))
        first_sums (n-some r c s p q) = omega (arith, sum_most B G.limits r c.chain, c.ends, P 0 low, G.gathered.start)

        node_here : Winner B a b nodes Q w (edge t.bits at nodes) i best j → Ending B a b (put nodes i node) i
        node_here (w-none e z l) =
            n-none (rw (made nodes.cost i y inside.cost) (R.none e))
            (rw (made nodes.sum i _ inside.sum) (omega (arith, ap (λ (x : ℕ). (node_at nodes x).sum) z, first_sums (N 0 low), t.most (at - (node_at nodes j).place))))
            (rw (made nodes.place i k inside.place) (extend_none B a b k (omega (arith, before 0 low)) (level_least (λ o q. ⊥) l)))
        node_here (w-some r l c s q e g n m) =
            n-some (k ∷ r)
            (rw (made nodes.place i k inside.place)
            (extend B a b k r (omega (arith, c.ends, before j l), under, sized, c.chain) (subst Q (sym c.ends) q, c.coded)
            (subst (λ (x : ℕ). (o : List ℕ) → Chain B o → Coded B o → top o < k → Q (top o) → Before a b (stem B r (w x)) (stem B o (w (top o)))) (sym c.ends)
            (level_least (λ o x. Before a b (stem B r (w (node_at nodes j).place)) (stem B o (w x))) m))))
            (rw (made nodes.pred i j inside.pred, made nodes.place i k inside.place) (low, l, refl, trail_put nodes i node j r l s))
            (rw (made nodes.cost i y inside.cost) cost_is)
            (rw (made nodes.sum i _ inside.sum) (n ∙ bit_is))
          where
            bit_is : sum B r + w (node_at nodes j).place ≡ sum B (k ∷ r)
            bit_is = omega (arith, ap w (sym c.ends))

            cost_is : y ≡ cost a b (stem B (k ∷ r) 0)
            cost_is =
                omega (
                  arith,
                  R.some g,
                  ap (λ (x : ℕ). a * x) (drop_most r j l c.ends),
                  ap (λ (x : ℕ). a * x) (G.gathered.error_is i low high),
                  ap (λ (x : ℕ). b * x) bit_is,
                )

        pub node_next : (l : ℕ) → l < i + 1 → Ending B a b (put nodes i node) l
        node_next = below_more (λ (l : ℕ). Ending B a b (put nodes i node) l) i (λ l g. ending_put B a b nodes i node l g (N l g)) (node_here (level_winner best j h))
