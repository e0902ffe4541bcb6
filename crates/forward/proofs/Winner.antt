-- The first of the nodes before a target, by cost, then bits, then index, carries the first of all chains before it.
use mathlib.Core.Path.{◌≡◌, subst, ap}
use mathlib.Core.List.{List}
use Prim.Native.Nat.{ℕ, ◌+◌, ◌*◌, ◌≤◌, ◌<◌}
use native.Mathlib.Decide.{dec_lt}
use native.Mathlib.Omega.{arith}
use Rattle.block.specs.Block.{Block}
use Rattle.block.specs.Choice.{keep_number}
use Rattle.block.specs.Limits.{Limits, most_bits}
use Rattle.price.specs.Accepted.{Accepted}
use Rattle.price.specs.Best.{cost, Before, Before.cheaper, Before.shorter, Before.smaller}
use Rattle.price.proofs.Costs.{cost_most}
use Rattle.forward.specs.declared.nodes.Nodes.{Nodes}
use Rattle.forward.specs.declared.table.TheConstants.{FAR}
use Rattle.forward.specs.Bits.{Entry, Entry.none as t-none, Entry.some as t_some, priced}
use Rattle.forward.specs.Chain.{top, Chain, Coded, sum, miss, stem, Candidate}
use Rattle.forward.specs.Nodes.{node_at}
use Rattle.forward.specs.Scanning.{Ahead, Ahead.cheaper as a-cheaper, Ahead.shorter as a-shorter, Ahead.earlier as a-earlier, Earliest, Earliest.none as e-none, Earliest.some as e-some, Trail, Ending, Ending.none as n-none, Ending.some as n-some}
use Rattle.forward.proofs.Chain.{keep_rises, sum_most, miss_most}
use Rattle.forward.proofs.Pricing.{priced_some, priced_none}

module _ (B : Block) (a b : ℕ) where
  -- the order of nodes is the order of all chains behind them
  ahead_stem : (r q o : List ℕ) (e f c d n m i j : ℕ) → Ahead c n i d m j
      → c ≡ cost a b (stem B r 0) + b * e → d ≡ cost a b (stem B q 0) + b * f → n ≡ sum B r + e → m ≡ sum B q + f
      → Before a b (stem B q 0) (stem B o 0) → (i ≤ j → keep_number r ≤ keep_number o) → Before a b (stem B r e) (stem B o f)
  ahead_stem r q o e f c d n m i j (a-cheaper h) p s t u (cheaper g) k = cheaper (omega arith)
  ahead_stem r q o e f c d n m i j (a-cheaper h) p s t u (shorter g l) k = cheaper (omega arith)
  ahead_stem r q o e f c d n m i j (a-cheaper h) p s t u (smaller g l z) k = cheaper (omega arith)
  ahead_stem r q o e f c d n m i j (a-shorter h v) p s t u (cheaper g) k = cheaper (omega arith)
  ahead_stem r q o e f c d n m i j (a-shorter h v) p s t u (shorter g l) k = shorter (omega arith) (omega arith)
  ahead_stem r q o e f c d n m i j (a-shorter h v) p s t u (smaller g l z) k = shorter (omega arith) (omega arith)
  ahead_stem r q o e f c d n m i j (a-earlier h v w) p s t u (cheaper g) k = cheaper (omega arith)
  ahead_stem r q o e f c d n m i j (a-earlier h v w) p s t u (shorter g l) k = shorter (omega arith) (omega arith)
  ahead_stem r q o e f c d n m i j (a-earlier h v w) p s t u (smaller g l z) k = smaller (omega arith) (omega arith) (k w)

  -- the same edge after two chains
  same_edge : (r o : List ℕ) (e : ℕ) → Before a b (stem B r 0) (stem B o 0) → Before a b (stem B r e) (stem B o e)
  same_edge r o e (cheaper g) = cheaper (omega arith)
  same_edge r o e (shorter g l) = shorter (omega arith) (omega arith)
  same_edge r o e (smaller g l z) = smaller (omega arith) (omega arith) z

  pub fits : Limits B → Accepted a b → (r : List ℕ) (n : ℕ) → Chain B r → n + 26 * top r ≤ most_bits → (cost a b (stem B r 0) + b * n < FAR) × (sum B r + n ≤ most_bits)
  fits lim price r n p h =
      let s : sum B r + n ≤ most_bits = omega (arith, sum_most B lim r p) in
      let c : (a * miss B r ≤ 280960638809298625) × (b * (sum B r + n) ≤ 13104000000000000) = cost_most (miss B r) (sum B r + n) price (miss_most B lim r p) s in
      (omega (arith, c.0, c.1), s)

-- The winner: no edge leads on, or the chain behind node `at`
pub data Winner (B : Block) (a b : ℕ) (nodes : Nodes) (Q : ℕ → Type 0) (w x : ℕ → ℕ) (i best at : ℕ) : Type 0 where
  none : best ≡ FAR → at ≡ 0 → ((j : ℕ) → j < i → (o : List ℕ) → Chain B o → Coded B o → top o ≡ (node_at nodes j).place → Q (node_at nodes j).place → ⊥) → Winner B a b nodes Q w x i best at
  some : (r : List ℕ) → at < i → Candidate B a b (node_at nodes at).place r → Trail nodes at r → Q (node_at nodes at).place
      → best ≡ cost a b (stem B r 0) + b * w (node_at nodes at).place → best < FAR → (node_at nodes at).sum + x at ≡ sum B r + w (node_at nodes at).place
      → ((j : ℕ) → j < i → (o : List ℕ) → Chain B o → Coded B o → top o ≡ (node_at nodes j).place → Q (node_at nodes j).place → Before a b (stem B r (w (node_at nodes at).place)) (stem B o (w (node_at nodes j).place)))
      → Winner B a b nodes Q w x i best at

module _ (B : Block) (a b : ℕ) (lim : Limits B) (price : Accepted a b) (nodes : Nodes) (Q : ℕ → Type 0) (w x : ℕ → ℕ) (i : ℕ)
    (endings : (j : ℕ) → j < i → Ending B a b nodes j)
    (rises : (j l : ℕ) → j < l → l < i → (node_at nodes j).place < (node_at nodes l).place)
    (entries : (j : ℕ) → j < i → Entry (Q (node_at nodes j).place) (w (node_at nodes j).place) (x j))
    (small : (j : ℕ) → j < i → w (node_at nodes j).place + 26 * (node_at nodes j).place ≤ most_bits) where
  cost_of_lem : (j : ℕ) → j < i → x j ≡ w (node_at nodes j).place → priced b (x j) ≡ b * w (node_at nodes j).place
  cost_of_lem j l e = omega (arith, priced_some b (x j) (λ f. omega (arith, small j l)), ap (λ (n : ℕ). b * n) e)

  not_far : (j : ℕ) → j < i → (o : List ℕ) → Chain B o → Coded B o → top o ≡ (node_at nodes j).place → Q (node_at nodes j).place → FAR ≤ (node_at nodes j).cost + priced b (x j) → ⊥
  not_far j l o u v t q h = go (endings j l) (entries j l)
    where
      go : Ending B a b nodes j → Entry (Q (node_at nodes j).place) (w (node_at nodes j).place) (x j) → ⊥
      go (n-none e f n) z = n o u v t
      go (n-some r c s e f) (t-none p m) = p q
      go (n-some r c s e f) (t_some p m) = omega (arith, cost_of_lem j l m, fits B a b lim price r (w (node_at nodes j).place) c.chain (omega (arith, small j l, c.ends)))

  pub winner : (best at : ℕ) → Earliest (λ j. (node_at nodes j).cost + priced b (x j)) (λ j. (node_at nodes j).sum + x j) i best at → Winner B a b nodes Q w x i best at
  winner best at (e-none e z h) = none e z (λ j l o u v t q. not_far j l o u v t q (h j l))
  winner best at (e-some l f e h) = go (endings at l) (entries at l)
    where
      go : Ending B a b nodes at → Entry (Q (node_at nodes at).place) (w (node_at nodes at).place) (x at) → Winner B a b nodes Q w x i best at
      go (n-none g k n) z = absurd (omega arith)
      go (n-some r c s g k) (t-none p m) = absurd (omega (arith, priced_none b (x at) m))
      go (n-some r c s g k) (t_some p m) = some r l c s p (omega (arith, cost_of_lem at l m)) f (omega arith) least
        where
          other : (j : ℕ) → j < i → (at ≤ j → at < j) → (o : List ℕ) → Chain B o → Coded B o → top o ≡ (node_at nodes j).place → Q (node_at nodes j).place → Ending B a b nodes j → Entry (Q (node_at nodes j).place) (w (node_at nodes j).place) (x j)
              → Before a b (stem B r (w (node_at nodes at).place)) (stem B o (w (node_at nodes j).place))
          other j lj ne o u v t q (n-none e1 e2 n) en = absurd (n o u v t)
          other j lj ne o u v t q (n-some r2 c2 s2 e1 e2) (t-none p2 m2) = absurd (p2 q)
          other j lj ne o u v t q (n-some r2 c2 s2 e1 e2) (t_some p2 m2) =
              ahead_stem B a b r r2 o (w (node_at nodes at).place) (w (node_at nodes j).place) _ _ _ _ at j (h j lj)
              (omega (arith, cost_of_lem at l m)) (omega (arith, cost_of_lem j lj m2)) (omega arith) (omega arith) (c2.least o u v t)
              (λ le. omega (arith, keep_rises B r o c.chain (omega (arith, c.ends, rises at j (ne le) lj))))

          same : (o : List ℕ) → Chain B o → Coded B o → top o ≡ (node_at nodes at).place → Before a b (stem B r (w (node_at nodes at).place)) (stem B o (w (node_at nodes at).place))
          same o u v t = same_edge B a b r o (w (node_at nodes at).place) (c.least o u v t)

          least : (j : ℕ) → j < i → (o : List ℕ) → Chain B o → Coded B o → top o ≡ (node_at nodes j).place → Q (node_at nodes j).place → Before a b (stem B r (w (node_at nodes at).place)) (stem B o (w (node_at nodes j).place))
          least j lj o u v t q =
              elim (dec_lt j at) [
                | yes h1 ↦ other j lj (λ le. absurd (omega arith)) o u v t q (endings j lj) (entries j lj)
                | no h1 ↦
                    elim (dec_lt at j) [
                      | yes h2 ↦ other j lj (λ le. h2) o u v t q (endings j lj) (entries j lj)
                      | no h2 ↦
                          let e : at ≡ j = omega arith in
                          subst (λ (j : ℕ). top o ≡ (node_at nodes j).place → Before a b (stem B r (w (node_at nodes at).place)) (stem B o (w (node_at nodes j).place))) e (same o u v) t
                    ]
              ]
