-- The scan for the first node: what holds at its head, how a turn keeps it, and what it gives at the end.
use mathlib.Core.Path.{◌≡◌, refl, sym, subst, ap}
use Prim.Native.Nat.{ℕ, ◌+◌, ◌-◌, ◌≤◌, ◌<◌}
use native.Mathlib.Decide.{dec_lt}
use native.Mathlib.Omega.{arith}
use borrow.Author.Count.{below_more}
use borrow.Author.Tests.{lt-ltb, le-ltb}
use Rattle.price.specs.Accepted.{most_on_bits}
use Rattle.forward.specs.declared.first.Quick.{Quick}
use Rattle.forward.specs.declared.first.Exact.{Exact}
use Rattle.forward.specs.declared.nodes.Nodes.{Nodes}
use Rattle.forward.specs.declared.table.Table.{Table}
use Rattle.forward.specs.declared.table.TheConstants.{FAR}
use Rattle.forward.specs.First.{Weighed, Weighed.better as w-better, Weighed.same as w-same, Weighed.worse as w-worse, Compared, Compared.better as x-better, Compared.shorter as x-shorter, Compared.dearer as x-dearer, Compared.longer as x-longer}
use Rattle.forward.specs.Nodes.{node_at}
use Rattle.forward.specs.Scanning.{edge, cost_at, bit_at, cost_from, Reach, Ahead, Ahead.cheaper, Ahead.shorter, Ahead.earlier}
use Rattle.forward.proofs.Pricing.{priced_most}

-- a cost that only the nodes cost_from low on have
module _ (low : ℕ) (c : ℕ → ℕ) (j : ℕ) where
  pub cost_from_below : j < low → cost_from low c j ≡ FAR
  unfolding cost_from
  cost_from_below h = simp (lt-ltb j low h)

  pub cost_from_on : low ≤ j → cost_from low c j ≡ c j
  unfolding cost_from
  cost_from_on h = simp (le-ltb j low h)

pub far_below : (low : ℕ) (c : ℕ → ℕ) (j : ℕ) → j < low → FAR ≤ cost_from low c j
far_below low c j h = omega (arith, cost_from_below low c j h)

-- by cost alone
pub record Scan (c : ℕ → ℕ) (s : Quick) (k : ℕ) : Type 0 where
  pub most : s.cost ≤ FAR
  pub far : s.cost ≡ FAR → s.at ≡ 0
  pub low : (j : ℕ) → j < k → s.cost ≤ c j
  pub held : s.cost < FAR → (s.at < k) × (c s.at ≡ s.cost)
  pub alone : (s.again ≡ s.cost → ⊥) → s.cost < FAR → (j : ℕ) → j < k → c j ≡ s.cost → j ≡ s.at

module _ (c : ℕ → ℕ) where
  pub scan_start : (k again : ℕ) → ((j : ℕ) → j < k → FAR ≤ c j) → Scan c (record { cost = FAR; at = 0; again = again }) k
  scan_start k again l = record { most = omega arith; far = λ e. refl; low = l; held = λ h. absurd (omega arith); alone = λ e h. absurd (omega arith) }

  pub scan_step : (s r : Quick) (k : ℕ) → Scan c s k → Weighed s (c k) k r → Scan c r (k + 1)
  scan_step s r k i (w-better h e) =
      subst (λ (r : Quick). Scan c r (k + 1)) (sym e)
      (record {
        most = omega (arith, i.most);
        far = λ f. absurd (omega (arith, i.most));
        low = below_more (λ (j : ℕ). c k ≤ c j) k (λ j l. omega (arith, i.low j l)) (omega arith);
        held = λ f. (omega arith, refl);
        alone = λ t f. below_more (λ (j : ℕ). c j ≡ c k → j ≡ k) k (λ j l g. absurd (omega (arith, i.low j l))) (λ g. refl);
      })
  scan_step s r k i (w-same h e) =
      subst (λ (r : Quick). Scan c r (k + 1)) (sym e)
      (record {
        most = i.most;
        far = i.far;
        low = below_more (λ (j : ℕ). s.cost ≤ c j) k i.low (omega arith);
        held = λ f. (omega (arith, (i.held f).0), (i.held f).1);
        alone = λ t. absurd (t h);
      })
  scan_step s r k i (w-worse h e) =
      subst (λ (r : Quick). Scan c r (k + 1)) (sym e)
      (record {
        most = i.most;
        far = i.far;
        low = below_more (λ (j : ℕ). s.cost ≤ c j) k i.low (omega arith);
        held = λ f. (omega (arith, (i.held f).0), (i.held f).1);
        alone = λ t f. below_more (λ (j : ℕ). c j ≡ s.cost → j ≡ s.at) k (i.alone t f) (λ g. absurd (omega arith));
      })

-- by cost and bits
pub data Held (c n : ℕ → ℕ) (s : Exact) (k : ℕ) : Type 0 where
  none : s ≡ record { rank = record { cost = FAR; bits = 0 }; at = 0 } → ((j : ℕ) → j < k → FAR ≤ c j) → Held c n s k
  some : s.at < k → s.rank.cost < FAR → s.rank.cost ≡ c s.at → s.rank.bits ≡ n s.at → ((j : ℕ) → j < k → Ahead (c s.at) (n s.at) s.at (c j) (n j) j) → Held c n s k

ahead_trans : (x y i d m j e o l : ℕ) → Ahead x y i d m j → Ahead d m j e o l → Ahead x y i e o l
ahead_trans x y i d m j e o l (cheaper p) (cheaper q) = cheaper (omega arith)
ahead_trans x y i d m j e o l (cheaper p) (shorter q f) = cheaper (omega arith)
ahead_trans x y i d m j e o l (cheaper p) (earlier q f g) = cheaper (omega arith)
ahead_trans x y i d m j e o l (shorter p r) (cheaper q) = cheaper (omega arith)
ahead_trans x y i d m j e o l (shorter p r) (shorter q f) = shorter (omega arith) (omega arith)
ahead_trans x y i d m j e o l (shorter p r) (earlier q f g) = shorter (omega arith) (omega arith)
ahead_trans x y i d m j e o l (earlier p r s) (cheaper q) = cheaper (omega arith)
ahead_trans x y i d m j e o l (earlier p r s) (shorter q f) = shorter (omega arith) (omega arith)
ahead_trans x y i d m j e o l (earlier p r s) (earlier q f g) = earlier (omega arith) (omega arith) (omega arith)

module _ (c n : ℕ → ℕ) where
  pub held_start : (k : ℕ) → ((j : ℕ) → j < k → FAR ≤ c j) → Held c n (record { rank = record { cost = FAR; bits = 0 }; at = 0 }) k
  held_start k l = none refl l

  taken : (s : Exact) (k : ℕ) → c k < FAR → ((j : ℕ) → j < k → Ahead (c k) (n k) k (c j) (n j) j) → Held c n (record { rank = record { cost = c k; bits = n k }; at = k }) (k + 1)
  taken s k h l = some (omega arith) h refl refl (below_more (λ (j : ℕ). Ahead (c k) (n k) k (c j) (n j) j) k l (earlier refl refl (omega arith)))

  stays : (s : Exact) (k : ℕ) → s.at < k → s.rank.cost < FAR → s.rank.cost ≡ c s.at → s.rank.bits ≡ n s.at → ((j : ℕ) → j < k → Ahead (c s.at) (n s.at) s.at (c j) (n j) j)
      → Ahead (c s.at) (n s.at) s.at (c k) (n k) k → Held c n s (k + 1)
  stays s k h f e g l m = some (omega arith) f e g (below_more (λ (j : ℕ). Ahead (c s.at) (n s.at) s.at (c j) (n j) j) k l m)

  pub held_step : (s r : Exact) (k : ℕ) → Held c n s k → Compared s (record { cost = c k; bits = n k }) k r → Held c n r (k + 1)
  held_step s r k (none e l) (x-better h q) =
      subst (λ (r : Exact). Held c n r (k + 1)) (sym q) (taken s k (omega (arith, ap (λ (s : Exact). s.rank.cost) e)) (λ j g. cheaper (omega (arith, l j g, ap (λ (s : Exact). s.rank.cost) e))))
  held_step s r k (none e l) (x-shorter h g q) = absurd (omega (arith, ap (λ (s : Exact). s.rank.bits) e))
  held_step s r k (none e l) (x-dearer h q) =
      subst (λ (r : Exact). Held c n r (k + 1)) (sym q) (none e (below_more (λ (j : ℕ). FAR ≤ c j) k l (omega (arith, ap (λ (s : Exact). s.rank.cost) e))))
  held_step s r k (none e l) (x-longer h g q) =
      subst (λ (r : Exact). Held c n r (k + 1)) (sym q) (none e (below_more (λ (j : ℕ). FAR ≤ c j) k l (omega (arith, ap (λ (s : Exact). s.rank.cost) e))))
  held_step s r k (some a f e g l) (x-better h q) =
      subst (λ (r : Exact). Held c n r (k + 1)) (sym q) (taken s k (omega arith) (λ j m. ahead_trans _ _ _ _ _ _ _ _ _ (cheaper (omega arith)) (l j m)))
  held_step s r k (some a f e g l) (x-shorter h i q) =
      subst (λ (r : Exact). Held c n r (k + 1)) (sym q) (taken s k (omega arith) (λ j m. ahead_trans _ _ _ _ _ _ _ _ _ (shorter (omega arith) (omega arith)) (l j m)))
  held_step s r k (some a f e g l) (x-dearer h q) =
      subst (λ (r : Exact). Held c n r (k + 1)) (sym q) (stays s k a f e g l (cheaper (omega arith)))
  held_step s r k (some a f e g l) (x-longer h i q) =
      subst (λ (r : Exact). Held c n r (k + 1)) (sym q) (stays s k a f e g l (elim (dec_lt (n s.at) (n k)) [ yes d ↦ shorter (omega arith) d | no d ↦ earlier (omega arith) (omega arith) (omega arith) ]))

-- what keeps the sums of a scan within 64 bits
module _ {nodes : Nodes} {i at : ℕ} (s : Reach nodes i at) (t : Table) (j : ℕ) (h : j < i) where
  pub reach_cost : (b : ℕ) → b ≤ most_on_bits → cost_at b t.bits at nodes j ≤ FAR + FAR
  reach_cost b g = omega (arith, s.cost_most j h, priced_most b (edge t.bits at nodes j) g (t.most (at - (node_at nodes j).place)))

  pub reach_bit : bit_at t.bits at nodes j ≤ 6144
  reach_bit = omega (arith, s.sum_most j h, t.most (at - (node_at nodes j).place))
