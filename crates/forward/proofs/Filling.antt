-- All nodes of a block, from the first to the answer.
use Rattle.std.specs.Prelude.{None, Some}
use mathlib.Core.Path.{◌≡◌, refl, sym, subst, ap, ◌∙◌}
use mathlib.Core.List.{List, [], ◌∷◌}
use Prim.Native.Nat.{ℕ, ◌+◌, ◌-◌, ◌*◌, ◌≤◌, ◌<◌}
use native.Mathlib.Nat.{mul-le-mul}
use native.Mathlib.Omega.{arith}
use borrow.Author.Count.{below_more}
use lib.Dec.{eqb}
use lib.Pow.{pow_mono}
use Rattle.block.specs.Block.{Block, dropped}
use Rattle.block.specs.Limits.{most_level_error}
use Rattle.block.proofs.Bounds.{end_most}
use Rattle.price.specs.Accepted.{Accepted}
use Rattle.price.specs.Best.{Way, Before, NoChoice}
use Rattle.forward.specs.declared.Chosen.{Chosen}
use Rattle.forward.specs.declared.level.Gathered.{Gathered}
use Rattle.forward.specs.declared.nodes.Node.{Node}
use Rattle.forward.specs.declared.nodes.Nodes.{Nodes}
use Rattle.forward.specs.declared.table.Table.{Table}
use Rattle.forward.specs.declared.table.TheConstants.{FAR}
use Rattle.forward.specs.Decision.{OfBest}
use Rattle.forward.specs.Given.{level_at, Given, Job, Decided}
use Rattle.forward.specs.Chain.{top, Chain, Coded, miss, stem}
use Rattle.forward.specs.Nodes.{node_at, put}
use Rattle.forward.specs.Scanning.{edge, cost_at, bit_at, Reach, Earliest, Behind, Beaten, Trail, Ending, Ending.some as n-some, Filled, gain, Backed, Walked, Walks}
use Rattle.forward.proofs.Chain.{start, finish, finish_none, onto, end_bits, way_onto, miss_more, keep_under}
use Rattle.forward.proofs.Winner.{Winner, Winner.none as w-none, Winner.some as w-some, winner}
use Rattle.forward.proofs.Forgetting.{behind, level_saves, end_saves}
use Rattle.forward.proofs.Node.{Reduced, made, kept, Within, ends_at, Ends, reach_of, level_reach, reduces, node_next}

start_cost : (a b x y : ℕ) → x ≡ y → a * x + b * 0 ≡ a * (0 + y) + b * (0 + 0)
start_cost a b x y e = omega (arith, ap (λ (x : ℕ). a * x) e)

module _ {t : Table} {block : Gathered} (J : Job t block) where
  -- the numbers of level i that make its entry
  pub index_most : (i : ℕ) → 0 < i → i ≤ block.count → ((level_at block.levels i).size ≤ 10) × (0 < (level_at block.levels i).place) × ((level_at block.levels i).place < 64)
  index_most i h g =
      (omega (arith, J.given.gathered.size_is i h g, J.given.limits.size_most (level_at block.levels i).place), omega (arith, J.given.gathered.rises 0 i h g), J.given.gathered.under i g)

  pub sized : (i : ℕ) → 0 < i → i ≤ block.count → 0 < (level_at block.levels i).size
  sized i h g = omega (arith, J.given.gathered.size_is i h g, J.given.gathered.sized i h g)

  -- what keeping level i gains fits
  pub gain_most : {a b : ℕ} → Accepted a b → (i : ℕ) → 0 < i → i ≤ block.count → a * (level_at block.levels i).drop ≤ FAR
  gain_most price i h g =
      let d : (level_at block.levels i).drop ≤ most_level_error = omega (arith, J.given.gathered.error_is i h g, J.given.limits.drops_most (level_at block.levels i).place) in
      omega (arith, mul-le-mul price.a_high d)

-- the entry of level i, less the place of the node before it
abbrev pub entry_of : Gathered → ℕ → ℕ
entry_of block i = (level_at block.levels i).size * 64 + (level_at block.levels i).place - 1

module _ {a b : ℕ} {t : Table} {block : Gathered} where
  pub filled_start : (nodes : Nodes) (c : ℕ) → Job t block → Within nodes 0 → c ≡ a * block.error.0 + b * 0
      → Filled a b t block (put nodes 0 (record { place = 0; cost = c; sum = 0; pred = 0 })) 1
  filled_start nodes c J l e = record { places = λ j h. at (λ (j : ℕ). (node_at new j).place ≡ (level_at block.levels j).place) j h (rw (made nodes.place 0 0 l.place) (sym J.given.gathered.start)); endings = endings }
    where
      new : Nodes
      new = put nodes 0 (record { place = 0; cost = c; sum = 0; pred = 0 })

      at : (P : ℕ → Type 0) (j : ℕ) → j < 1 → P 0 → P j
      at P j h p = let z : 0 ≡ j = omega arith in subst P z p

      endings : (B : Block) → Given B t block → (i : ℕ) → i < 1 → Ending B a b new i
      endings B G i h =
          at (Ending B a b new) i h
          (n-some [] (rw (made nodes.place 0 0 l.place) (start B a b)) refl
          (rw (made nodes.cost 0 c l.cost) (e ∙ start_cost a b block.error.0 (dropped B.drops 1 63) G.gathered.total_is))
          (rw (made nodes.sum 0 0 l.sum) refl))

  module _ {nodes : Nodes} {i : ℕ} (price : Accepted a b) (J : Job t block) (N : Filled a b t block nodes i) where
    pub filled_reach : 0 < i → i ≤ block.count → Reach nodes i (entry_of block i)
    filled_reach h g = level_reach J.block a b price t block J.given nodes i N.places (N.endings J.block J.given) _ h g refl

    pub filled_behind : {low : ℕ} → 0 < i → i ≤ block.count → Beaten b t.bits nodes low i → Behind (cost_at b t.bits (entry_of block i) nodes) low i
    filled_behind h g F =
        let m : ((level_at block.levels i).size ≤ 10) × (0 < (level_at block.levels i).place) × ((level_at block.levels i).place < 64) = index_most J i h g in
        behind F (entry_of block i) (omega (arith, m.0, m.2))
        (λ k j l q f. rw (N.places k q, N.places j (omega arith)) (level_saves J.block t block J.given i (entry_of block i) h g refl k j l q))

    module _ {best j : ℕ} (low : 0 < i) (high : i ≤ block.count) (E : Earliest (cost_at b t.bits (entry_of block i) nodes) (bit_at t.bits (entry_of block i) nodes) i best j) where
      pub filled_reduces : best < FAR → a * (level_at block.levels i).drop ≤ best
      filled_reduces f = reduces J.block a b price t block J.given nodes i N.places (N.endings J.block J.given) _ low high refl best j E f

      pub filled_next : {y : ℕ} → Reduced best (a * (level_at block.levels i).drop) y → Within nodes i
          → Filled a b t block (put nodes i (record { place = (level_at block.levels i).place; cost = y; sum = bit_at t.bits (entry_of block i) nodes j; pred = j })) (i + 1)
      filled_next {y} R l =
          record {
            places = below_more (λ (x : ℕ). (node_at (put nodes i node) x).place ≡ (level_at block.levels x).place) i (λ x h. rw (kept nodes.place i node.place x h) (N.places x h)) (rw (made nodes.place i node.place l.place) refl);
            endings = λ B G. node_next B a b price t block G nodes i N.places (N.endings B G) _ low high refl best j E y R l;
          }
        where
          node : Node
          node = record { place = (level_at block.levels i).place; cost = y; sum = bit_at t.bits (entry_of block i) nodes j; pred = j }

module _ (B : Block) (a b : ℕ) (price : Accepted a b) (t : Table) (block : Gathered) (G : Given B t block) (nodes : Nodes)
    (P : (j : ℕ) → j < block.count + 1 → (node_at nodes j).place ≡ (level_at block.levels j).place) where
  -- what a way back saves
  gain_is : (r : List ℕ) (i : ℕ) → i ≤ block.count → Chain B r → Trail nodes i r → miss B r + gain block.levels nodes i r ≡ block.error.0
  gain_is [] i h u s = omega (arith, G.gathered.total_is)
  gain_is (k ∷ r) i h u s =
      omega (
        arith,
        gain_is r (node_at nodes i).pred (omega (arith, s.1)) u.3 s.3,
        miss_more B k r u.0 u.1,
        G.plain k,
        G.gathered.error_is i s.0 h,
        ap (λ (x : ℕ). B.drops x) (sym (P i (omega arith)) ∙ s.2),
      )

  module _ (N : (j : ℕ) → j < block.count + 1 → Ending B a b nodes j) where
    abbrev Q : ℕ → Type 0
    Q q = q < 63 → 0 < B.len 0

    under : (j : ℕ) → j < block.count + 1 → (node_at nodes j).place < 64
    under j h = omega (arith, P j h, G.gathered.under j (omega arith))

    pub end_reach : Reach nodes (block.count + 1) 63
    end_reach = reach_of B a b price t block G nodes (block.count + 1) P N 63 (omega arith) (λ j h. omega (arith, under j h))

    end_winner : (best j : ℕ) → Earliest (cost_at b t.bits 63 nodes) (bit_at t.bits 63 nodes) (block.count + 1) best j → Winner B a b nodes Q (end_bits B) (edge t.bits 63 nodes) (block.count + 1) best j
    end_winner best j h =
        winner B a b G.limits price nodes Q (end_bits B) (edge t.bits 63 nodes) (block.count + 1)
        N (λ j l p q. omega (arith, P j (omega arith), P l q, G.gathered.rises j l p (omega arith)))
        (λ j l. G.table.ends (node_at nodes j).place (under j l))
        (λ j l. omega (arith, under j l, end_most B G.limits (node_at nodes j).place (eqb (node_at nodes j).place 63) (under j l) refl))
        best j h

    all_least : (R : List ℕ → ℕ → Type 0) → ((j : ℕ) → j < block.count + 1 → (o : List ℕ) → Chain B o → Coded B o → top o ≡ (node_at nodes j).place → Q (node_at nodes j).place → R o (node_at nodes j).place)
        → (o : List ℕ) → Chain B o → Coded B o → Q (top o) → R o (top o)
    all_least R f o u v =
        let e : Ends B a b price t block G o = ends_at B a b price t block G o u in
        let l : e.at < block.count + 1 = omega (arith, e.high) in
        let is : top o ≡ (node_at nodes e.at).place = e.is ∙ sym (P e.at l) in
        subst (λ (q : ℕ). Q q → R o q) (sym is) (f e.at l o u v is)

    pub end_none : (best j : ℕ) → Earliest (cost_at b t.bits 63 nodes) (bit_at t.bits 63 nodes) (block.count + 1) best j → best ≡ FAR → NoChoice B
    end_none best j h f = go (end_winner best j h)
      where
        go : Winner B a b nodes Q (end_bits B) (edge t.bits 63 nodes) (block.count + 1) best j → NoChoice B
        go (w-none e z l) = finish_none B a b (all_least (λ o q. ⊥) l)
        go (w-some r l c s q e g n m) = absurd (omega arith)

    pub end_backed : (best j : ℕ) → Earliest (cost_at b t.bits 63 nodes) (bit_at t.bits 63 nodes) (block.count + 1) best j → (best ≡ FAR → ⊥) → Backed block.levels block.error.0 nodes j
    end_backed best j h f = go (end_winner best j h)
      where
        go : Winner B a b nodes Q (end_bits B) (edge t.bits 63 nodes) (block.count + 1) best j → Backed block.levels block.error.0 nodes j
        go (w-none e z l) = absurd (f e)
        go (w-some r l c s q e g n m) =
            record {
              way = r;
              trail = s;
              at_most = omega (arith, G.gathered.most);
              under = λ i d. under i (omega arith);
              keep_most = omega (arith, keep_under B r c.chain, pow_mono {i = top r + 1} {j = 64} (omega (arith, c.ends, under j l)));
              gain_most = omega (arith, gain_is r j (omega arith) c.chain s);
            }

    pub end_chosen : (best j n : ℕ) (p : Chosen) → Earliest (cost_at b t.bits 63 nodes) (bit_at t.bits 63 nodes) (block.count + 1) best j → (best ≡ FAR → ⊥) → n ≡ bit_at t.bits 63 nodes j
        → ((w : List ℕ) → Trail nodes j w → Walked block.levels block.error.0 nodes j n p w) → OfBest B a b p
    end_chosen best j n p h f x k = go (end_winner best j h)
      where
        go : Winner B a b nodes Q (end_bits B) (edge t.bits 63 nodes) (block.count + 1) best j → OfBest B a b p
        go (w-none e z l) = absurd (f e)
        go (w-some r l c s q e g d m) =
            record {
              choice = onto r [];
              best =
                  finish B a b r c.chain c.coded (subst Q (sym c.ends) q)
                  (subst (λ (x : ℕ). (o : List ℕ) → Chain B o → Coded B o → Q (top o) → Before a b (stem B r (end_bits B x)) (stem B o (end_bits B (top o)))) (sym c.ends)
                  (all_least (λ o x. Before a b (stem B r (end_bits B (node_at nodes j).place)) (stem B o (end_bits B x))) m));
              error_is = omega (arith, W.error_is, gain_is r j (omega arith) c.chain s, ap (λ (v : Way). v.err) (way_onto B r));
              bits_is = omega (arith, W.bits_is, d, ap (λ (v : Way). v.bit) (way_onto B r), ap (end_bits B) c.ends);
              keep_is = omega (arith, W.keep_is, ap (λ (v : Way). v.keep) (way_onto B r));
            }
          where
            W : Walked block.levels block.error.0 nodes j n p r
            W = k r s

module _ {a b : ℕ} {t : Table} {block : Gathered} {nodes : Nodes} (price : Accepted a b) (N : Filled a b t block nodes (block.count + 1)) where
  pub search_reach : Job t block → Reach nodes (block.count + 1) 63
  search_reach J = end_reach J.block a b price t block J.given nodes N.places (N.endings J.block J.given)

  pub search_behind : {low : ℕ} → Job t block → Beaten b t.bits nodes low (block.count + 1) → Behind (cost_at b t.bits 63 nodes) low (block.count + 1)
  search_behind J F =
      behind F 63 (omega arith)
      (λ k j l q f. rw (N.places k q, N.places j (omega arith)) (end_saves J.block t block J.given k j l q f))

  module _ {best j : ℕ} (E : Earliest (cost_at b t.bits 63 nodes) (bit_at t.bits 63 nodes) (block.count + 1) best j) where
    pub search_none : best ≡ FAR → Decided a b t block None
    search_none f =
        record {
          decides = λ B G.
              record {
                best = λ p e. cc;
                nothing = λ e. end_none B a b price t block G nodes N.places (N.endings B G) best j E f;
              };
        }

    pub search_backed : Job t block → (best ≡ FAR → ⊥) → Backed block.levels block.error.0 nodes j
    search_backed J f = end_backed J.block a b price t block J.given nodes N.places (N.endings J.block J.given) best j E f

    pub search_best : {p : Chosen} → (best ≡ FAR → ⊥) → Walks block.levels block.error.0 nodes j (bit_at t.bits 63 nodes j) p → Decided a b t block (Some p)
    search_best {p} f w =
        record {
          decides = λ B G.
              record {
                best = λ q e. subst (OfBest B a b) (cc) (end_chosen B a b price t block G nodes N.places (N.endings B G) best j _ p E f refl w.walked);
                nothing = λ e. cc;
              };
        }
