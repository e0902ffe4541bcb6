-- The last levels that can't pay for the least bits of a level are in no best choice.
use mathlib.Core.Path.{◌≡◌, refl, sym, subst, ap, ◌∙◌}
use mathlib.Core.List.{List, [], ◌∷◌}
use Prim.Native.Nat.{ℕ, ◌+◌, ◌-◌, ◌*◌, ◌≤◌, ◌<◌}
use native.Mathlib.Nat.{mul-le-mul_left}
use native.Mathlib.Decide.{dec_lt}
use native.Mathlib.Omega.{arith}
use borrow.Author.Tests.{lt-ltb, le-ltb, ne_eqb}
use lib.Dec.{ltb}
use lib.ListN.{get_or}
use Rattle.block.specs.First.{pick}
use Rattle.block.specs.Block.{Block, LevelCode, level_bits}
use Rattle.block.specs.Choice.{Choice, Codable, CodableChoice, bits, error}
use Rattle.block.specs.Limits.{Limits}
use Rattle.price.specs.Best.{Way, way, cost, Before, Before.cheaper, Before.shorter, Before.smaller, Best}
use Rattle.forward.specs.declared.Chosen.{Chosen}
use Rattle.std.specs.Prelude.{Option}
use Rattle.forward.specs.Decision.{OfBest, Decides}
use Rattle.forward.specs.declared.level.Gathered.{Gathered}
use Rattle.forward.specs.declared.table.Table.{Table}
use Rattle.forward.specs.declared.table.TheConstants.{LEAST}
use Rattle.forward.specs.Bits.{Entry, Entry.some as t_some, Entry.none as t-none}
use Rattle.forward.specs.Given.{level_at, cut, Met, Gathers, Given, Job, Decided}
use Rattle.forward.specs.Chain.{top, Chain, Coded, sum, miss, stem}
use Rattle.forward.specs.Cutting.{Cut}
use Rattle.forward.proofs.Chain.{onto, choice_onto, codable_onto, Turned, turned, end_bits, way_onto, miss_more}
use Rattle.forward.proofs.Node.{index_under}

-- a block whose levels behind position k are as if they were 0, but for their errors
abbrev front : Block → ℕ → Block
front B k = record { size = λ x. pick (ltb k x) 0 (B.size x); drops = B.drops; keeps = B.keeps; len = B.len }

before_trans : {a b : ℕ} {u v w : Way} → Before a b u v → Before a b v w → Before a b u w
before_trans (cheaper p) (cheaper q) = cheaper (omega arith)
before_trans (cheaper p) (shorter q f) = cheaper (omega arith)
before_trans (cheaper p) (smaller q f g) = cheaper (omega arith)
before_trans (shorter p r) (cheaper q) = cheaper (omega arith)
before_trans (shorter p r) (shorter q f) = shorter (omega arith) (omega arith)
before_trans (shorter p r) (smaller q f g) = shorter (omega arith) (omega arith)
before_trans (smaller p r s) (cheaper q) = cheaper (omega arith)
before_trans (smaller p r s) (shorter q f) = shorter (omega arith) (omega arith)
before_trans (smaller p r s) (smaller q f g) = smaller (omega arith) (omega arith) (omega arith)

module _ (B : Block) (k : ℕ) where
  size_front : (x : ℕ) → x ≤ k → (front B k).size x ≡ B.size x
  size_front x h = simp (le-ltb k x h)

  size_behind : (x : ℕ) → k < x → (front B k).size x ≡ 0
  size_behind x h = simp (lt-ltb k x h)

  front_most : (x : ℕ) → 0 < (front B k).size x → x ≤ k
  front_most x h = elim (dec_lt k x) [ yes g ↦ absurd (omega (arith, size_behind x g)) | no g ↦ omega arith ]

  front_size : (x : ℕ) → 0 < (front B k).size x → (front B k).size x ≡ B.size x
  front_size x h = size_front x (front_most x h)

  -- a choice of the front is one of the block, with the same numbers
  pub record Same (j : ℕ) (c : List ℕ) : Type 0 where
    pub choice : Choice B j c
    pub codable : Codable (front B k) j c → Codable B j c
    pub bits_same : bits (front B k) j c ≡ bits B j c
    pub error_same : error (front B k) j c ≡ error B j c

  same : (j : ℕ) (c : List ℕ) → Choice (front B k) j c → Same j c
  same j [] h = record { choice = tt; codable = λ d. d; bits_same = refl; error_same = refl }
  same j (x ∷ c) h =
      let e : (front B k).size x ≡ B.size x = front_size x h.2 in
      let s : Same x c = same x c h.3 in
      record {
        choice = (h.0, h.1, omega (arith, e, h.2), s.choice);
        codable = λ d. (subst (λ (z : ℕ). LevelCode B.len (x - j - 1) z) e d.0, s.codable d.1);
        bits_same = omega (arith, s.bits_same, ap (λ (z : ℕ). level_bits B.len (x - j - 1) z) e);
        error_same = omega (arith, s.error_same);
      }

  way_same : (c : List ℕ) → Choice (front B k) 0 c → way (front B k) c ≡ way B c
  way_same c h = let s : Same 0 c = same 0 c h in λ i. record { err = s.error_same i; bit = s.bits_same i; keep = (way B c).keep }

  -- a chain that ends in the front is one of the front
  chain_front : (r : List ℕ) → top r ≤ k → Chain B r → Chain (front B k) r
  chain_front [] h p = tt
  chain_front (x ∷ r) h p = (p.0, p.1, omega (arith, size_front x h, p.2), chain_front r (omega (arith, p.0)) p.3)

  coded_front : (r : List ℕ) → top r ≤ k → Chain B r → Coded B r → Coded (front B k) r
  coded_front [] h p q = tt
  coded_front (x ∷ r) h p q = (subst (λ (z : ℕ). LevelCode B.len (x - top r - 1) z) (sym (size_front x h)) q.0, coded_front r (omega (arith, p.0)) p.3 q.1)

  limits_front : Limits B → Limits (front B k)
  limits_front l =
      record {
        size_most = λ x. elim (dec_lt k x) [ yes g ↦ omega (arith, size_behind x g) | no g ↦ omega (arith, size_front x (omega arith), l.size_most x) ];
        drops_most = l.drops_most;
        keeps_most = l.keeps_most;
        len_most = l.len_most;
      }

module _ (B : Block) (a b : ℕ) (table : Table) (block : Gathered) (G : Given B table block) (r : ℕ) (C : Cut a (b * get_or table.bits LEAST 0) block r) where
  abbrev k : ℕ
  k = (level_at block.levels r).place

  abbrev place : ℕ → ℕ
  place i = (level_at block.levels i).place

  abbrev F : Block
  F = front B k

  upto : (i : ℕ) → i ≤ r → (level_at block.levels i).place ≤ k
  upto i h =
      elim (dec_lt i r) [
        | yes g ↦ omega (arith, G.gathered.rises i r g C.most)
        | no g ↦ let e : i ≡ r = omega arith in omega (arith, ap (λ (x : ℕ). (level_at block.levels x).place) e)
      ]

  -- what is left is given like a block of its own
  pub front_given : Given F table (cut block r)
  front_given =
      record {
        limits = limits_front B k G.limits;
        plain = G.plain;
        table = G.table;
        gathered = record {
          most = omega (arith, C.most, g.most);
          start = g.start;
          rises = λ i j h l. g.rises i j h (omega (arith, C.most));
          under = λ i h. g.under i (omega (arith, C.most));
          sized = λ i h l. omega (arith, size_front B k (level_at block.levels i).place (upto i l), g.sized i h (omega (arith, C.most)));
          size_is = λ i h l. g.size_is i h (omega (arith, C.most)) ∙ sym (size_front B k (level_at block.levels i).place (upto i l));
          error_is = λ i h l. g.error_is i h (omega (arith, C.most));
          every = λ x h l s. met x (g.every x h l (omega (arith, s, front_size B k x s))) (front_most B k x s);
          total_is = g.total_is;
        };
      }
    where
      g : Gathers B.size B.drops block
      g = G.gathered

      met : (x : ℕ) → Met block x → x ≤ k → Met (cut block r) x
      met x t h =
          record {
            at = t.at;
            low = t.low;
            high = elim (dec_lt r t.at) [ yes l ↦ absurd (omega (arith, t.is, g.rises r t.at l t.high)) | no l ↦ omega arith ];
            is = t.is;
          }

  -- a chain is not before what is left of it
  pub record Left (o : List ℕ) : Type 0 where
    pub it : List ℕ
    pub chain : Chain B it
    pub coded : Coded B it
    pub ended : top it < 63 → 0 < B.len 0
    pub most : top it ≤ k
    pub before : Before a b (stem B it (end_bits B (top it))) (stem B o (end_bits B (top o)))

  -- the error of a cut level is not worth its bits
  shorter_by : (x : ℕ) (o : List ℕ) → k < x → Chain B (x ∷ o) → Coded B (x ∷ o) → Before a b (stem B o (end_bits B (top o))) (stem B (x ∷ o) (end_bits B x))
  shorter_by x o h p q = order
    where
      t : Met block x
      t = G.gathered.every x (omega (arith, p.0)) p.1 p.2

      behind : r < t.at
      behind = index_under place block.count G.gathered.rises t.at r C.most (omega (arith, t.is))

      inside : x < 63
      inside = elim (dec_lt x 63) [ yes g ↦ g | no g ↦ absurd (C.inside t.at behind t.high (omega (arith, t.is, p.1))) ]

      ends : (y : ℕ) → y < 63 → end_bits B y ≡ B.len 0
      ends y g = simp (ne_eqb y 63 (λ e. omega arith))

      n : ℕ
      n = level_bits B.len (x - top o - 1) (B.size x)

      in_table : Entry (LevelCode B.len (x - top o - 1) (B.size x)) n (get_or table.bits (B.size x * 64 + (x - top o - 1)) 0) → get_or table.bits LEAST 0 ≤ n
      in_table (t_some u v) = omega (arith, v, G.table.least (B.size x) (x - top o - 1) p.2 (G.limits.size_most x) (omega (arith, p.1)))
      in_table (t-none u v) = absurd (u q.0)

      least : get_or table.bits LEAST 0 ≤ n
      least = in_table (G.table.levels (B.size x) (x - top o - 1) p.2 (G.limits.size_most x) (omega (arith, p.1)))

      poor : a * B.drops x ≤ b * n
      poor =
          omega (
            arith,
            C.poor t.at behind t.high,
            ap (λ (z : ℕ). a * z) (G.gathered.error_is t.at t.low t.high ∙ ap B.drops t.is),
            mul-le-mul_left b least,
          )

      missed : miss B (x ∷ o) + B.drops x ≡ miss B o
      missed = omega (arith, miss_more B x o p.0 p.1, G.plain x)

      bit : sum B (x ∷ o) ≡ n + sum B o
      bit = refl

      dear : cost a b (stem B o (end_bits B (top o))) ≤ cost a b (stem B (x ∷ o) (end_bits B x))
      dear =
          omega (
            arith,
            poor,
            ap (λ (z : ℕ). a * z) missed,
            ap (λ (z : ℕ). b * z) bit,
            ap (λ (z : ℕ). b * z) (ends x inside),
            ap (λ (z : ℕ). b * z) (ends (top o) (omega (arith, p.0, inside))),
          )

      order : Before a b (stem B o (end_bits B (top o))) (stem B (x ∷ o) (end_bits B x))
      order =
          elim (dec_lt (cost a b (stem B o (end_bits B (top o)))) (cost a b (stem B (x ∷ o) (end_bits B x)))) [
            | yes g ↦ cheaper g
            | no g ↦ shorter (omega (arith, dear)) (omega (arith, p.2, ends x inside, ends (top o) (omega (arith, p.0, inside))))
          ]

  left : (o : List ℕ) → Chain B o → Coded B o → (top o < 63 → 0 < B.len 0) → Left o
  left [] p q d = record { it = []; chain = p; coded = q; ended = d; most = omega arith; before = smaller refl refl (omega arith) }
  left (x ∷ o) p q d =
      elim (dec_lt k x) [
        | no h ↦ record { it = x ∷ o; chain = p; coded = q; ended = d; most = omega arith; before = smaller refl refl (omega arith) }
        | yes h ↦ further h (left o p.3 q.1 (λ g. d (short h)))
      ]
    where
      short : k < x → x < 63
      short h =
          let t : Met block x = G.gathered.every x (omega (arith, p.0)) p.1 p.2 in
          elim (dec_lt x 63) [
            | yes g ↦ g
            | no g ↦ absurd (C.inside t.at (index_under place block.count G.gathered.rises t.at r C.most (omega (arith, t.is))) t.high (omega (arith, t.is, p.1)))
          ]

      further : k < x → Left o → Left (x ∷ o)
      further h l = record { it = l.it; chain = l.chain; coded = l.coded; ended = l.ended; most = l.most; before = before_trans l.before (shorter_by x o h p q) }

  -- every codable choice has one of the front that is not behind it
  pub record Better (o : List ℕ) : Type 0 where
    pub it : List ℕ
    pub codable : CodableChoice F it
    pub before : Before a b (way B it) (way B o)

  better : (o : List ℕ) → CodableChoice B o → Better o
  better o h =
      let t : Turned B o = turned B o h in
      let l : Left t.it = left t.it t.chain t.coded t.ended in
      record {
        it = onto l.it [];
        codable = record {
          choice = choice_onto F l.it [] (chain_front B k l.it l.most l.chain) tt;
          codable = codable_onto F l.it [] (coded_front B k l.it l.most l.chain l.coded) l.ended;
        };
        before =
            subst (λ (o : List ℕ). Before a b (way B (onto l.it [])) (way B o)) t.is
            (subst (λ (v : Way). Before a b v (way B (onto t.it []))) (sym (way_onto B l.it))
            (subst (λ (v : Way). Before a b (stem B l.it (end_bits B (top l.it))) v) (sym (way_onto B t.it)) l.before));
      }

  best_of : (c : List ℕ) → Best F a b c → Best B a b c
  best_of c h =
      let s : Same B k 0 c = same B k 0 c h.allowed.choice in
      record {
        allowed = record { choice = s.choice; codable = s.codable h.allowed.codable };
        least = λ o q.
            let z : Better o = better o q in
            before_trans
            (subst (λ (v : Way). Before a b v (way B z.it)) (way_same B k c h.allowed.choice)
            (subst (λ (v : Way). Before a b (way F c) v) (way_same B k z.it z.codable.choice) (h.least z.it z.codable)))
            z.before;
      }

  of_best : (p : Chosen) → OfBest F a b p → OfBest B a b p
  of_best p h =
      let s : Same B k 0 h.choice = same B k 0 h.choice h.best.allowed.choice in
      record { choice = h.choice; best = best_of h.choice h.best; bits_is = h.bits_is ∙ s.bits_same; error_is = h.error_is ∙ s.error_same; keep_is = h.keep_is }

  pub decides : {d : Option Chosen} → Decides F a b d → Decides B a b d
  decides D = record { best = λ p e. of_best p (D.best p e); nothing = λ e o h. D.nothing e (better o h).it (better o h).codable }

-- the search of what is left decides the block
module _ (a b : ℕ) {table : Table} {block : Gathered} {r : ℕ} (C : Cut a (b * get_or table.bits LEAST 0) block r) where
  pub cut_job : Job table block → Job table (cut block r)
  cut_job J = record { block = front J.block (level_at block.levels r).place; given = front_given J.block a b table block J.given r C }

  pub cut_decided : {d : Option Chosen} → Decided a b table (cut block r) d → Decided a b table block d
  cut_decided D =
      record { decides = λ B G. decides B a b table block G r C (D.decides (front B (level_at block.levels r).place) (front_given B a b table block G r C)) }
