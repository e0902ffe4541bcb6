-- Nodes that a later one beats whatever follows can be left out of a scan.
use mathlib.Core.Path.{◌≡◌, ◌∙◌}
use mathlib.Core.Bool.{Bool, true, false}
use mathlib.Core.List.{List}
use Prim.Native.Nat.{ℕ, ◌+◌, ◌-◌, ◌*◌, ◌≤◌, ◌<◌}
use native.Mathlib.Nat.{mul-le-mul_left}
use native.Mathlib.Decide.{dec_lt}
use native.Mathlib.Omega.{arith}
use borrow.Author.Tests.{ne_eqb}
use lib.Dec.{eqb}
use lib.ListN.{get_or}
use lib.Seq.{get_or-set_other}
use Rattle.block.specs.First.{pick}
use Rattle.block.specs.Block.{Block}
use Rattle.forward.specs.declared.level.Gathered.{Gathered}
use Rattle.forward.specs.declared.nodes.Node.{Node}
use Rattle.forward.specs.declared.nodes.Nodes.{Nodes}
use Rattle.forward.specs.declared.table.Table.{Table}
use Rattle.forward.specs.declared.table.TheConstants.{SAVED, FAR}
use Rattle.forward.specs.Bits.{Entry, Entry.some as t_some, Entry.none as t-none, is_full}
use Rattle.forward.specs.Given.{level_at, Given}
use Rattle.forward.specs.Nodes.{node_at, put}
use Rattle.forward.specs.Scanning.{edge, cost_from, cost_at, Ahead, Ahead.cheaper, Ahead.shorter, Ahead.earlier, Earliest, Earliest.none as e-none, Earliest.some as e-some, Beats, Behind, Outdone, Beaten, Forgot}
use Rattle.forward.proofs.Pricing.{full_priced, full_there}
use Rattle.forward.proofs.Scanning.{cost_from_below, cost_from_on}

ahead_most : {x n i y m j : ℕ} → Ahead x n i y m j → x ≤ y
ahead_most (cheaper p) = omega arith
ahead_most (shorter p q) = omega arith
ahead_most (earlier p q r) = omega arith

-- the first of those cost_from low on is the first of all
module _ (c n : ℕ → ℕ) (low i : ℕ) (B : Behind c low i) where
  pub whole : {best at : ℕ} → Earliest (cost_from low c) n i best at → Earliest c n i best at
  whole (e-none e z h) = e-none e z go
    where
      on : (j : ℕ) → low ≤ j → j < i → FAR ≤ c j
      on j g l = omega (arith, h j l, cost_from_on low c j g)

      go : (j : ℕ) → j < i → FAR ≤ c j
      go j l =
          elim (dec_lt j low) [
            | yes g ↦ let k : Beats c low i j = B.beaten j g in omega (arith, k.less, on k.at k.from_low k.under)
            | no g ↦ on j (omega arith) l
          ]
  whole {best} {at} (e-some l f e h) = e-some l f (e ∙ is) go
    where
      there : low ≤ at
      there = elim (dec_lt at low) [ yes g ↦ absurd (omega (arith, cost_from_below low c at g)) | no g ↦ omega arith ]

      is : cost_from low c at ≡ c at
      is = cost_from_on low c at there

      on : (j : ℕ) → low ≤ j → j < i → Ahead (c at) (n at) at (c j) (n j) j
      on j g k = rw (is, cost_from_on low c j g) at (h j k)

      go : (j : ℕ) → j < i → Ahead (c at) (n at) at (c j) (n j) j
      go j k =
          elim (dec_lt j low) [
            | yes g ↦ let b : Beats c low i j = B.beaten j g in cheaper (omega (arith, b.less, ahead_most (on b.at b.from_low b.under)))
            | no g ↦ on j (omega arith) k
          ]

-- where a longer run saves at most so many bits on the way to a target, an outdone node is beaten there
module _ {b low i : ℕ} {bits : List ℕ} {nodes : Nodes} (F : Beaten b bits nodes low i) (at : ℕ) (under : at < 704)
    (saves : (k j : ℕ) → j < k → k < i → is_full bits ≡ true → edge bits at nodes k ≤ edge bits at nodes j + get_or bits SAVED 0) where
  pub behind : Behind (cost_at b bits at nodes) low i
  behind = record { most = omega (arith, F.under); beaten = go }
    where
      go : (j : ℕ) → j < low → Beats (cost_at b bits at nodes) low i j
      go j h =
          let o : Outdone b bits nodes low i j = F.outdone j h in
          let f : is_full bits ≡ true = F.full (omega arith) in
          record {
            at = o.at;
            from_low = o.from_low;
            under = o.under;
            less =
                omega (
                  arith,
                  o.less,
                  full_priced bits b (at - (node_at nodes j).place) f (omega arith),
                  full_priced bits b (at - (node_at nodes o.at).place) f (omega arith),
                  mul-le-mul_left b (saves o.at j (omega (arith, o.from_low)) o.under f),
                );
          }

module _ (B : Block) (t : Table) (block : Gathered) (G : Given B t block) where
  -- a longer run to the same level
  pub level_saves : (i at : ℕ) → 0 < i → i ≤ block.count → at ≡ (level_at block.levels i).size * 64 + (level_at block.levels i).place - 1
      → (k j : ℕ) → j < k → k < i → get_or t.bits (at - (level_at block.levels k).place) 0 ≤ get_or t.bits (at - (level_at block.levels j).place) 0 + get_or t.bits SAVED 0
  level_saves i at low high e k j h g =
      rw (index k g, index j (omega arith))
      (G.table.saved (level_at block.levels i).size (run k) (run j) sized small (omega (arith, before j k h (omega arith), before k i g high, before j i (omega arith) high)) (omega (arith, under)))
    where
      before : (x y : ℕ) → x < y → y ≤ block.count → (level_at block.levels x).place < (level_at block.levels y).place
      before = G.gathered.rises

      under : (level_at block.levels i).place < 64
      under = G.gathered.under i high

      sized : 0 < (level_at block.levels i).size
      sized = omega (arith, G.gathered.size_is i low high, G.gathered.sized i low high)

      small : (level_at block.levels i).size ≤ 10
      small = omega (arith, G.gathered.size_is i low high, G.limits.size_most (level_at block.levels i).place)

      run : ℕ → ℕ
      run x = (level_at block.levels i).place - 1 - (level_at block.levels x).place

      index : (x : ℕ) → x < i → at - (level_at block.levels x).place ≡ (level_at block.levels i).size * 64 + run x
      index x l = omega (arith, e, before x i l high)

  -- the end of block does not depend on the run
  pub end_saves : (k j : ℕ) → j < k → k < block.count + 1 → is_full t.bits ≡ true → get_or t.bits (63 - (level_at block.levels k).place) 0 ≤ get_or t.bits (63 - (level_at block.levels j).place) 0 + get_or t.bits SAVED 0
  end_saves k j h g f = go (G.table.ends (level_at block.levels k).place (G.gathered.under k (omega arith))) (G.table.ends (level_at block.levels j).place (G.gathered.under j (omega arith)))
    where
      end : ℕ → ℕ
      end x = pick (eqb x 63) 0 (B.len 0)

      end_most : (t : Bool) → pick t 0 (B.len 0) ≤ B.len 0
      end_most true = omega arith
      end_most false = omega arith

      later : end (level_at block.levels j).place ≡ B.len 0
      later = simp (ne_eqb (level_at block.levels j).place 63 (λ e. omega (arith, G.gathered.rises j k h (omega arith), G.gathered.under k (omega arith))))

      go : Entry ((level_at block.levels k).place < 63 → 0 < B.len 0) (end (level_at block.levels k).place) (get_or t.bits (63 - (level_at block.levels k).place) 0) → Entry ((level_at block.levels j).place < 63 → 0 < B.len 0) (end (level_at block.levels j).place) (get_or t.bits (63 - (level_at block.levels j).place) 0)
          → get_or t.bits (63 - (level_at block.levels k).place) 0 ≤ get_or t.bits (63 - (level_at block.levels j).place) 0 + get_or t.bits SAVED 0
      go (t_some p q) (t_some u v) = omega (arith, end_most (eqb (level_at block.levels k).place 63), later)
      go (t-none p q) e = absurd (full_there t.bits (63 - (level_at block.levels k).place) f (omega arith) q)
      go (t_some p q) (t-none u v) = absurd (full_there t.bits (63 - (level_at block.levels j).place) f (omega arith) v)

-- the nodes beaten so far
pub beaten_start : {b : ℕ} {bits : List ℕ} {nodes : Nodes} → Beaten b bits nodes 0 1
beaten_start = record { under = omega arith; full = λ h. absurd (omega arith); outdone = λ j h. absurd (omega arith) }

pub beaten_next : {b : ℕ} {bits : List ℕ} {nodes : Nodes} {low i r : ℕ} (y : Node) → Beaten b bits nodes low i → Forgot b bits (put nodes i y) low i r → Beaten b bits (put nodes i y) r (i + 1)
beaten_next {b} {bits} {nodes} {low} {i} {r} y F R =
    record {
      under = omega (arith, R.most);
      full = λ h. elim (dec_lt low r) [ yes g ↦ R.full g | no g ↦ F.full (omega (arith, R.from_low)) ];
      outdone = λ j h. elim (dec_lt j low) [ yes g ↦ old j g h | no g ↦ new j (omega arith) h ];
    }
  where
    same : (j : ℕ) → j < i → (node_at (put nodes i y) j).cost ≡ (node_at nodes j).cost
    same j h = get_or-set_other nodes.cost i j y.cost 0 (λ e. omega arith)

    new : (j : ℕ) → low ≤ j → j < r → Outdone b bits (put nodes i y) r (i + 1) j
    new j g h = record { at = i; from_low = R.most; under = omega arith; less = R.outdone j g h }

    -- what beat it stands yet, or is beaten itself
    old : (j : ℕ) → j < low → j < r → Outdone b bits (put nodes i y) r (i + 1) j
    old j g h =
        let o : Outdone b bits nodes low i j = F.outdone j g in
        elim (dec_lt o.at r) [
          | yes k ↦ record { at = i; from_low = R.most; under = omega arith; less = omega (arith, o.less, same j (omega (arith, F.under)), same o.at o.under, R.outdone o.at o.from_low k) }
          | no k ↦ record { at = o.at; from_low = omega arith; under = omega (arith, o.under); less = omega (arith, o.less, same j (omega (arith, F.under)), same o.at o.under) }
        ]
