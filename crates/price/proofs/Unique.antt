-- A price gives a block one best choice: its error, its bits and its keep number are settled.
-- Assumes nothing.
use mathlib.Core.Path.{◌≡◌, ap}
use mathlib.Core.List.{List}
use Prim.Native.Nat.{ℕ, suc, ◌*◌, ◌≤◌}
use native.Mathlib.Nat.{mul-le-mul_left, le_antisymm}
use native.Mathlib.Decide.{dec_le}
use native.Mathlib.Omega.{arith}
use Rattle.block.specs.Block.{Block}
use Rattle.price.specs.Best.{Way, way, cost, Before, cheaper, shorter, smaller, Best}

pub record Same (v w : Way) : Type 0 where
  pub err : v.err ≡ w.err
  pub bit : v.bit ≡ w.bit
  pub keep : v.keep ≡ w.keep

-- equal costs and bits leave equal errors
below : (a b : ℕ) (v w : Way) → 1 ≤ a → cost a b v ≡ cost a b w → v.bit ≡ w.bit → v.err ≤ w.err
below a b v w h e f = go (dec_le v.err w.err)
  where
    go : Dec (v.err ≤ w.err) → v.err ≤ w.err
    go (yes l) = l
    go (no l) =
        let k : suc w.err ≤ v.err = omega arith in
        absurd (omega (arith, mul-le-mul_left a k, ap (λ (i : ℕ). b * i) f))

pub before_both : (a b : ℕ) (v w : Way) → 1 ≤ a → Before a b v w → Before a b w v → Same v w
before_both a b v w h (cheaper p) (cheaper q) = absurd (omega arith)
before_both a b v w h (cheaper p) (shorter q r) = absurd (omega arith)
before_both a b v w h (cheaper p) (smaller q r s) = absurd (omega arith)
before_both a b v w h (shorter p t) (cheaper q) = absurd (omega arith)
before_both a b v w h (shorter p t) (shorter q r) = absurd (omega arith)
before_both a b v w h (shorter p t) (smaller q r s) = absurd (omega arith)
before_both a b v w h (smaller p t u) (cheaper q) = absurd (omega arith)
before_both a b v w h (smaller p t u) (shorter q r) = absurd (omega arith)
before_both a b v w h (smaller p t u) (smaller q r s) =
    record { err = le_antisymm (below a b v w h p t) (below a b w v h q r); bit = t; keep = le_antisymm u s }

pub best_unique : (B : Block) (a b : ℕ) (c d : List ℕ) → 1 ≤ a → Best B a b c → Best B a b d → Same (way B c) (way B d)
best_unique B a b c d h p q = before_both a b (way B c) (way B d) h (p.least d q.allowed) (q.least c p.allowed)
