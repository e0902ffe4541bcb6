-- The price job's promise settles its answer and the keep numbers.
-- Assumes nothing.
use mathlib.Core.Path.{◌≡◌, sym, ◌∙◌}
use mathlib.Core.List.{List}
use Prim.Native.Nat.{ℕ, ◌≤◌}
use native.Mathlib.Omega.{arith}
use lib.IntN.{ℤ}
use lib.ListN.{length}
use lib.Seq.{ext_get_or}
use Rattle.std.specs.Prelude.{Result}
use Rattle.block.specs.Block.{Block}
use Rattle.corners.specs.Pair.{Pair}
use Rattle.corners.proofs.Sums.{total_same}
use Rattle.attained.specs.Uncodable.{FirstUncodable}
use Rattle.attained.proofs.Winning.{gives_unique}
use Rattle.attained.proofs.Uncodable.{uncodable_unique}
use Rattle.answers.specs.declared.Point.{Point}
use Rattle.answers.specs.declared.Refusal.{Refusal}
use Rattle.answers.proofs.Same.{point_same}
use Rattle.still.proofs.Fine.{price_verdict_fine}
use Rattle.price_job.specs.PriceJob.{Decided, Priced, uncodable, decides, PriceMeets, refuses, prices}

module _ {B : ℕ → Block} {n a b : ℕ} (low : 1 ≤ a) where
  decided_pair : {P Q : Pair} {x y : List ℕ} → Decided B n a b P x → Decided B n a b Q y → P ≡ Q
  decided_pair p q =
      p.adds ∙ total_same p.pair q.pair n (λ i l. (gives_unique (B i) low (p.gives i l) (q.gives i l)).0) ∙ sym q.adds

  decided_keep : {P Q : Pair} {x y : List ℕ} → Decided B n a b P x → Decided B n a b Q y → length x ≡ n → length y ≡ n → x ≡ y
  decided_keep {x = x} {y = y} p q l m =
      ext_get_or 0 x y (l ∙ sym m) (λ i h. (gives_unique (B i) low (p.gives i (omega arith)) (q.gives i (omega arith))).1)

  decided_codable : {P : Pair} {x : List ℕ} {i : ℕ} → Decided B n a b P x → FirstUncodable B n i → ⊥
  decided_codable {i = i} p u = let g = p.gives i u.within in u.none g.choice g.best.allowed

  priced_unique : {before x y : List ℕ} {r s : Result Point Refusal} → length before ≡ n → Priced B n a b before r x → Priced B n a b before s y → (r ≡ s) × (x ≡ y)
  priced_unique {r = r} {s = s} l (uncodable i u p q) (uncodable j v o k) =
      let e = uncodable_unique u v in (point_same r s (cc), cc)
  priced_unique l (uncodable i u p q) (decides P d m o) = absurd (decided_codable d u)
  priced_unique l (decides P d m o) (uncodable i u p q) = absurd (decided_codable d u)
  priced_unique {r = r} {s = s} l (decides P d m o) (decides Q f k p) =
      let e = decided_keep d f (m ∙ l) (k ∙ l) in
      let g = decided_pair d f in
      (point_same r s (cc), e)

pub unique : {levels : List ℤ} {steps lengths : List ℕ} {a b : ℕ} {before x y : List ℕ} {r s : Result Point Refusal}
    → PriceMeets levels steps lengths a b before r x → PriceMeets levels steps lengths a b before s y → (r ≡ s) × (x ≡ y)
unique {r = r} {s = s} (refuses n d e v p q) (refuses m f g w o k) = (point_same r s (cc), cc)
unique {r = r} {s = s} (refuses n d e v p q) (prices w t) = (point_same r s (cc), cc)
unique {r = r} {s = s} (prices v t) (refuses m f g w o k) = (point_same r s (cc), cc)
unique {levels} {steps} {lengths} {a} {b} {before} (prices v t) (prices w u) =
    let f = price_verdict_fine levels steps lengths a b (length before) v in priced_unique f.1.a_low f.2 t u
