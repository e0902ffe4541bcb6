-- The two parts of a choice's cost at an accepted price are small enough that two costs fit in 64 bits.
-- Assumes nothing.
use Prim.Native.Nat.{ℕ, ◌*◌, ◌≤◌}
use native.Mathlib.Nat.{mul-le-mul}
use native.Mathlib.Omega.{arith}
use Rattle.block.specs.Limits.{most_bits, most_error}
use Rattle.price.specs.Accepted.{Accepted}

pub cost_most : {a b : ℕ} (e n : ℕ) → Accepted a b → e ≤ most_error → n ≤ most_bits → (a * e ≤ 280960638809298625) × (b * n ≤ 13104000000000000)
cost_most e n h p q = (omega (arith, mul-le-mul h.a_high p), omega (arith, mul-le-mul h.b_high q))
