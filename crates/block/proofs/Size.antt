-- The size of a magnitude is what its leading zeros leave of 64, and it is 0 for a magnitude of 0 only.
-- Assumes nothing.
use mathlib.Core.Path.{◌≡◌, refl, ap}
use Prim.Native.Nat.{ℕ, zero, suc, ◌+◌, ◌-◌, ◌*◌, ◌^◌, ◌≤◌, ◌<◌}
use native.Mathlib.Nat.{pow-suc}
use native.Mathlib.Omega.{arith}
use native.Mathlib.Decide.{dec_le}
use borrow.Author.Tests.{ltb-true, ltb-false}
use lib.Count.{count_leading_zeros, leading_unique}
use Rattle.block.specs.First.{first_from, first_below}
use Rattle.block.specs.Level.{fits_size, size_of}
use Rattle.block.proofs.First.{first_most, first_holds, first_fails}

pub size_most : (n : ℕ) → size_of n ≤ 10
unfolding size_of
size_most n = first_most (fits_size n) 10

module _ (n : ℕ) (h : n ≤ 1023) where
  under : n < 2 ^ size_of n
  unfolding size_of fits_size
  under = go (dec_le 10 (size_of n))
    where
      go : Dec (10 ≤ size_of n) → n < 2 ^ size_of n
      go (yes l) = let e : size_of n ≡ 10 = omega (arith, size_most n) in rw e (omega arith)
      go (no l) = ltb-true n (2 ^ size_of n) (first_holds (fits_size n) 10 (omega arith))

  over : 2 ^ size_of n ≤ 2 * n + 1
  unfolding size_of fits_size
  over = go (size_of n) refl
    where
      go : (s : ℕ) → size_of n ≡ s → 2 ^ s ≤ 2 * n + 1
      go zero e = omega arith
      go (suc s) e = omega (arith, pow-suc 2 s, ltb-false n (2 ^ s) (first_fails (fits_size n) 10 s (omega arith)))

  pub size_zeros : 64 - count_leading_zeros 64 n ≡ size_of n
  size_zeros =
      omega (arith, size_most n, leading_unique 64 n (64 - size_of n) (size_of n) (omega (arith, size_most n)) under over)

  pub size_none : size_of n ≡ 0 → n ≡ 0
  size_none e = omega (arith, under, ap (λ (s : ℕ). 2 ^ s) e)

pub size_of_none : size_of 0 ≡ 0
unfolding size_of fits_size first_below first_from
size_of_none = refl
