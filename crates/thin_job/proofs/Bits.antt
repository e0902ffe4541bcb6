-- Which levels stay, by the bits of a keep number with DC's set, eight at a time.
-- Assumes nothing.
use mathlib.Core.Path.{◌≡◌, sym, ap, ◌∙◌}
use mathlib.Core.Bool.{false}
use mathlib.Core.List.{List}
use Prim.Native.Nat.{ℕ, zero, suc, ◌+◌, ◌-◌, ◌*◌, ◌/◌, ◌%◌, ◌^◌, ◌≤◌, ◌<◌}
use native.Mathlib.Omega.{arith}
use native.Mathlib.Nat.{zero-div}
use lib.ListN.{get_or}
use lib.Pow.{shr-shr}
use borrow.Author.Tests.{eq-eqb, ne_eqb}
use Rattle.std.specs.Prelude.{bit_or}
use Rattle.std.proofs.lemmas.Nat.Bits.{bit_at_or, bit_at-pow_other}
use Rattle.still.specs.Refusals.{bit_at}
use Rattle.still.proofs.Place.{block_of_lem, position_of}
use Rattle.still.proofs.Bits.{low_bit}
use Rattle.thin_job.specs.ThinJob.{stays_at, stays}
use Rattle.thin_job.specs.Parts.{is_set}

-- a keep number with DC's bit set: its bits are those of what stays
abbrev pub staying : ℕ → ℕ
staying keep = bit_or keep 1

staying_at : (keep k : ℕ) → is_set (staying keep) k ≡ stays_at keep k
staying_at keep zero = eq-eqb (bit_at (staying keep) 0) 1 (omega (arith, bit_at_or keep 1 0))
staying_at keep (suc k) =
    let other : bit_at 1 (suc k) ≡ 0 = bit_at-pow_other 0 (suc k) (λ e. omega arith) in
    let same : bit_at (staying keep) (suc k) ≡ bit_at keep (suc k) = omega (arith, bit_at_or keep 1 (suc k)) in
    rw (ne_eqb (suc k) 0 (λ e. omega arith), same)

module _ (keep g : ℕ) where
  -- eight of them
  pub eight_stay : (k : ℕ) → k < 8 → is_set (staying keep / 2 ^ (8 * g) % 256) k ≡ stays_at keep (8 * g + k)
  eight_stay k h = rw (low_bit _ k h, shr-shr) (staying_at keep (8 * g + k))

  -- and none, where no bit is left
  pub none_stay : staying keep / 2 ^ (8 * g) ≡ 0 → (i : ℕ) → 8 * g ≤ i → stays_at keep i ≡ false
  none_stay e i l =
      let s : 8 * g + (i - 8 * g) ≡ i = omega arith in
      let none : staying keep / 2 ^ i ≡ 0 = rw s at (sym (shr-shr (staying keep) (8 * g) (i - 8 * g)) ∙ ap (λ (n : ℕ). n / 2 ^ (i - 8 * g)) e ∙ zero-div (2 ^ (i - 8 * g))) in
      sym (staying_at keep i) ∙ rw none

pub block_stays : (keep : List ℕ) (b k : ℕ) → k < 64 → stays_at (get_or keep b 0) k ≡ stays keep (64 * b + k)
block_stays keep b k h = rw (block_of_lem b k h, position_of b k h)
