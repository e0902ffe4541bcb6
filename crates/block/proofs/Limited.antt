-- A block of levels, steps and lengths within their bounds is within its own.
-- Assumes nothing.
use mathlib.Core.List.{List}
use Prim.Native.Nat.{ℕ, ◌*◌, ◌≤◌}
use native.Mathlib.Nat.{mul-le-mul}
use native.Mathlib.Omega.{arith}
use lib.IntN.{ℤ}
use Rattle.block.specs.Level.{ac_level, squared_error, block_of}
use Rattle.block.specs.Limits.{Levels, Steps, Lengths, Limits, most_level_error}
use Rattle.block.proofs.Size.{size_most}

pub error_product : {n q : ℕ} → n ≤ 1023 → q ≤ 255 → n * q ≤ 260865
error_product h k = mul-le-mul h k

pub error_level_most : {n q : ℕ} → n ≤ 1023 → q ≤ 255 → squared_error n q ≤ most_level_error
error_level_most h k = mul-le-mul (error_product h k) (error_product h k)

pub block_limits : {levels : List ℤ} {steps lengths : List ℕ} → Levels levels → Steps steps → Lengths lengths → Limits (block_of levels steps lengths)
block_limits {levels} {steps} {lengths} l s t = record {
  size_most = λ k. size_most (ac_level levels k);
  drops_most = λ k. error_level_most (l.most k) (s.most k);
  keeps_most = λ k. omega arith;
  len_most = t.most;
}
