-- The bits by which blocks grow: a parallel block's run is part of them, and the same runs and falls grow by the same.
-- Assumes nothing.
use Rattle.std.proofs.Common.{◌≡◌, refl, ℕ, zero, suc, ◌*◌, ◌≤◌, ◌<◌, arith}
use native.Mathlib.Decide.{ℕ_discrete}
use borrow.Author.Tests.{eq-eqb}
use Rattle.corners.specs.Merging.{growth}

-- A block that is parallel is part of the growth.
pub growth_part : (a b : ℕ) (c d : ℕ → ℕ) (n k : ℕ) → k < n → d k * a ≡ b * c k → c k ≤ growth a b c d n
growth_part a b c d zero k l e = absurd (omega arith)
growth_part a b c d (suc n) k l e = go (ℕ_discrete k n) (growth_part a b c d n k)
  where
    go : Dec (k ≡ n) → (k < n → d k * a ≡ b * c k → c k ≤ growth a b c d n) → c k ≤ growth a b c d (suc n)
    go (yes q) r = rw (← q, eq-eqb (d k * a) (b * c k) e) (omega arith)
    go (no u) r = omega (arith, r (omega arith) e)

-- The same runs and falls grow by the same.
pub growth_same : (a b : ℕ) (c d c' d' : ℕ → ℕ) (n : ℕ) → ((i : ℕ) → i < n → (c' i ≡ c i) × (d' i ≡ d i)) → growth a b c' d' n ≡ growth a b c d n
growth_same a b c d c' d' zero h = refl
growth_same a b c d c' d' (suc n) h =
    let s = growth_same a b c d c' d' n (λ i l. h i (omega arith)) in
    let e = h n (omega arith) in
    rw (s, e.0, e.1) refl
