-- Choices from the last kept position down are the choices; a common next position keeps their order.
use mathlib.Core.Path.{◌≡◌, refl, sym, subst, ap}
use mathlib.Core.List.{List, [], ◌∷◌}
use Prim.Native.Nat.{ℕ, suc, ◌+◌, ◌-◌, ◌*◌, ◌^◌, ◌≤◌, ◌<◌}
use native.Mathlib.Nat.{pow-suc}
use native.Mathlib.Numerals.{add-one}
use native.Mathlib.Omega.{arith}
use lib.Dec.{eqb}
use lib.Pow.{pow_mono, pow_pos}
use Rattle.block.specs.First.{pick}
use Rattle.block.specs.Block.{Block, LevelCode, level_bits, dropped}
use Rattle.block.specs.Choice.{Choice, Codable, CodableChoice, bits, error, keep_number}
use Rattle.block.specs.Limits.{Limits, most_level_error, most_error}
use Rattle.block.proofs.Bounds.{dropped_join, dropped_most, level_most}
use Rattle.price.specs.Best.{Way, way, Before, Before.cheaper, Before.shorter, Before.smaller, Best, NoChoice}
use Rattle.forward.specs.Chain.{top, Chain, Coded, sum, gone, miss, stem, Candidate, NoCandidate}

-- a chain before a choice after its top
abbrev pub onto : List ℕ → List ℕ → List ℕ
onto [] c = c
onto (k ∷ r) c = onto r (k ∷ c)

double : (k : ℕ) → 2 ^ (k + 1) ≡ 2 ^ k + 2 ^ k
double k = rw (add-one, pow-suc) (omega arith)

-- what is dropped after t, parted at k
parted : (d : ℕ → ℕ) (t k : ℕ) → t < k → k < 64 → dropped d (t + 1) (63 - t) ≡ dropped d (t + 1) (k - t - 1) + d k + dropped d (k + 1) (63 - k)
parted d t k h g =
    let e : 63 - t ≡ (k - t - 1) + suc (63 - k) = omega arith in
    let f : t + 1 + (k - t - 1) ≡ k = omega arith in
    let s : dropped d (suc k) (63 - k) ≡ dropped d (k + 1) (63 - k) = ap (λ (x : ℕ). dropped d x (63 - k)) (omega arith) in
    omega (
      arith,
      s,
      ap (λ (x : ℕ). dropped d (t + 1) x) e,
      dropped_join d (t + 1) (k - t - 1) (suc (63 - k)),
      ap (λ (x : ℕ). dropped d x (suc (63 - k))) f,
    )

pub keep_onto : (r c : List ℕ) → keep_number (onto r c) ≡ keep_number r + keep_number c
keep_onto [] c = omega arith
keep_onto (k ∷ r) c = omega (arith, keep_onto r (k ∷ c))

module _ (B : Block) where
  pub choice_onto : (r c : List ℕ) → Chain B r → Choice B (top r) c → Choice B 0 (onto r c)
  choice_onto [] c p q = q
  choice_onto (k ∷ r) c p q = choice_onto r (k ∷ c) p.3 (p.0, p.1, p.2, q)

  pub codable_onto : (r c : List ℕ) → Coded B r → Codable B (top r) c → Codable B 0 (onto r c)
  codable_onto [] c p q = q
  codable_onto (k ∷ r) c p q = codable_onto r (k ∷ c) p.1 (p.0, q)

  pub bits_onto : (r c : List ℕ) → bits B 0 (onto r c) ≡ sum B r + bits B (top r) c
  bits_onto [] c = omega arith
  bits_onto (k ∷ r) c = omega (arith, bits_onto r (k ∷ c))

  pub error_onto : (r c : List ℕ) → error B 0 (onto r c) ≡ gone B r + error B (top r) c
  error_onto [] c = omega arith
  error_onto (k ∷ r) c = omega (arith, error_onto r (k ∷ c))

  -- a choice, turned around
  pub record Turned (c : List ℕ) : Type 0 where
    pub it : List ℕ
    pub is : onto it [] ≡ c
    pub chain : Chain B it
    pub coded : Coded B it
    pub ended : top it < 63 → 0 < B.len 0

  turned_on : (r c : List ℕ) → Chain B r → Coded B r → Choice B (top r) c → Codable B (top r) c → Turned (onto r c)
  turned_on r [] p q h d = record { it = r; is = refl; chain = p; coded = q; ended = d }
  turned_on r (k ∷ c) p q h d = turned_on (k ∷ r) c (h.0, h.1, h.2, p) (d.0, q) h.3 d.1

  pub turned : (c : List ℕ) → CodableChoice B c → Turned c
  turned c h = turned_on [] c tt tt h.choice h.codable

  -- its three numbers
  abbrev pub end_bits : ℕ → ℕ
  end_bits j = pick (eqb j 63) 0 (B.len 0)

  pub way_onto : (r : List ℕ) → way B (onto r []) ≡ stem B r (end_bits (top r))
  way_onto r =
      let k : keep_number (onto r []) ≡ keep_number r = omega (arith, keep_onto r []) in
      λ i. record { err = error_onto r [] i; bit = bits_onto r [] i; keep = k i }

  -- a chain's keep number lies between the powers of its top
  pub keep_under : (r : List ℕ) → Chain B r → keep_number r < 2 ^ (top r + 1)
  keep_under [] p = omega (arith, pow_pos 1)
  keep_under (k ∷ r) p = omega (arith, keep_under r p.3, double k, pow_mono {i = top r + 1} {j = k} (omega (arith, p.0)))

  pub keep_over : (r : List ℕ) → 0 < top r → 2 ^ top r ≤ keep_number r
  keep_over [] h = absurd (omega arith)
  keep_over (k ∷ r) h = omega arith

  pub keep_rises : (r o : List ℕ) → Chain B r → top r < top o → keep_number r < keep_number o
  keep_rises r o p h = omega (arith, keep_under r p, keep_over o (omega arith), pow_mono {i = top r + 1} {j = top o} (omega arith))

  top_under : (r : List ℕ) → Chain B r → top r < 64
  top_under [] p = omega arith
  top_under (k ∷ r) p = p.1

  -- one more position: what was to be dropped is kept
  pub miss_more : (k : ℕ) (r : List ℕ) → top r < k → k < 64 → miss B (k ∷ r) + B.drops k ≡ miss B r + B.keeps k
  miss_more k r h g =
      let m : miss B (k ∷ r) ≡ gone B r + dropped B.drops (top r + 1) (k - top r - 1) + B.keeps k + dropped B.drops (k + 1) (63 - k) = refl in
      omega (arith, m, parted B.drops (top r) k h g)

  module _ (lim : Limits B) where
    pub sum_most : (r : List ℕ) → Chain B r → sum B r ≤ 26 * top r
    sum_most [] p = omega arith
    sum_most (k ∷ r) p = omega (arith, p.0, sum_most r p.3, level_most B.len lim.len_most (k - top r - 1) (B.size k) (lim.size_most k))

    gone_most : (r : List ℕ) → Chain B r → gone B r ≤ most_level_error * top r
    gone_most [] p = omega arith
    gone_most (k ∷ r) p = omega (arith, p.0, gone_most r p.3, lim.keeps_most k, dropped_most B.drops most_level_error lim.drops_most (top r + 1) (k - top r - 1))

    pub miss_most : (r : List ℕ) → Chain B r → miss B r ≤ most_error
    miss_most r p = omega (arith, gone_most r p, top_under r p, dropped_most B.drops most_level_error lim.drops_most (top r + 1) (63 - top r))

module _ (a b : ℕ) where
  -- a common next position keeps the order
  pub shift : (x d y : ℕ) {v w v' w' : Way} → v'.err + d ≡ v.err + x → w'.err + d ≡ w.err + x → v'.bit ≡ v.bit → w'.bit ≡ w.bit → v'.keep ≡ y + v.keep → w'.keep ≡ y + w.keep
      → Before a b v w → Before a b v' w'
  shift x d y {v} {w} {v'} {w'} e f g h k l (cheaper p) = cheaper (omega (arith, ap (λ (i : ℕ). a * i) e, ap (λ (i : ℕ). a * i) f, ap (λ (i : ℕ). b * i) g, ap (λ (i : ℕ). b * i) h))
  shift x d y {v} {w} {v'} {w'} e f g h k l (shorter p q) = shorter (omega (arith, ap (λ (i : ℕ). a * i) e, ap (λ (i : ℕ). a * i) f, ap (λ (i : ℕ). b * i) g, ap (λ (i : ℕ). b * i) h)) (omega arith)
  shift x d y {v} {w} {v'} {w'} e f g h k l (smaller p q r) = smaller (omega (arith, ap (λ (i : ℕ). a * i) e, ap (λ (i : ℕ). a * i) f, ap (λ (i : ℕ). b * i) g, ap (λ (i : ℕ). b * i) h)) (omega arith) (omega arith)

module _ (B : Block) (a b : ℕ) where
  -- The principle: the candidate of k goes on from the candidate of a position before, the first by cost, bits and keep number of those with k's bits added
  pub extend : (k : ℕ) (r : List ℕ) → Chain B (k ∷ r) → Coded B (k ∷ r)
      → ((o : List ℕ) → Chain B o → Coded B o → top o < k → LevelCode B.len (k - top o - 1) (B.size k)
      → Before a b (stem B r (level_bits B.len (k - top r - 1) (B.size k))) (stem B o (level_bits B.len (k - top o - 1) (B.size k))))
      → Candidate B a b k (k ∷ r)
  extend k r p q l = record { chain = p; coded = q; ends = refl; least = go }
    where
      go : (o : List ℕ) → Chain B o → Coded B o → top o ≡ k → Before a b (stem B (k ∷ r) 0) (stem B o 0)
      go [] u v e = absurd (omega (arith, p.0))
      go (i ∷ o) u v e =
          subst (λ (x : ℕ). Chain B (x ∷ o) → Coded B (x ∷ o) → Before a b (stem B (k ∷ r) 0) (stem B (x ∷ o) 0)) (sym e)
          (λ u v. shift a b (B.keeps k) (B.drops k) (2 ^ k) (miss_more B k r p.0 p.1) (miss_more B k o u.0 p.1) (omega arith) (omega arith) refl refl (l o u.3 v.1 u.0 v.0))
          u v

  pub extend_none : (k : ℕ) → 0 < k → ((o : List ℕ) → Chain B o → Coded B o → top o < k → LevelCode B.len (k - top o - 1) (B.size k) → ⊥) → NoCandidate B k
  extend_none k h l [] u v e = omega arith
  extend_none k h l (i ∷ o) u v e =
      subst (λ (x : ℕ). Chain B (x ∷ o) → Coded B (x ∷ o) → ⊥) (sym e) (λ u v. l o u.3 v.1 u.0 v.0) u v

  -- at the start nothing is kept
  pub start : Candidate B a b 0 []
  start = record { chain = tt; coded = tt; ends = refl; least = go }
    where
      go : (o : List ℕ) → Chain B o → Coded B o → top o ≡ 0 → Before a b (stem B [] 0) (stem B o 0)
      go [] u v e = smaller refl refl (omega arith)
      go (k ∷ o) u v e = absurd (omega (arith, u.0))

  -- The best choice is the first of all chains with the end of block added
  pub finish : (r : List ℕ) → Chain B r → Coded B r → (top r < 63 → 0 < B.len 0)
      → ((o : List ℕ) → Chain B o → Coded B o → (top o < 63 → 0 < B.len 0) → Before a b (stem B r (end_bits B (top r))) (stem B o (end_bits B (top o))))
      → Best B a b (onto r [])
  finish r p q d l =
      record {
        allowed = record { choice = choice_onto B r [] p tt; codable = codable_onto B r [] q d };
        least = λ o h.
            let t : Turned B o = turned B o h in
            subst (λ (o : List ℕ). Before a b (way B (onto r [])) (way B o)) t.is
            (subst (λ (v : Way). Before a b v (way B (onto t.it []))) (sym (way_onto B r))
            (subst (λ (v : Way). Before a b (stem B r (end_bits B (top r))) v) (sym (way_onto B t.it))
            (l t.it t.chain t.coded t.ended)));
      }

  pub finish_none : ((o : List ℕ) → Chain B o → Coded B o → (top o < 63 → 0 < B.len 0) → ⊥) → NoChoice B
  finish_none l o h = let t : Turned B o = turned B o h in l t.it t.chain t.coded t.ended
