-- A field that lies within two bytes is cut out of them by a shift and a remainder: both grow by one bit at a time.
-- Assumes nothing.
use mathlib.Core.Path.{◌≡◌, refl, sym, ap, ap₂, ◌∙◌}
use mathlib.Core.List.{List}
use Prim.Native.Nat.{ℕ, zero, suc, ◌+◌, ◌-◌, ◌*◌, ◌/◌, ◌%◌, ◌^◌, ◌≤◌, ◌<◌}
use native.Mathlib.Nat.{mod-one, mod-lt, mod-eq_of_lt, pow-suc}
use native.Mathlib.Numerals.{add-one}
use native.Mathlib.Decide.{dec_le}
use native.Mathlib.Omega.{arith}
use lib.ListN.{get_or, take, drop}
use lib.Pow as pow
use mir.Syntax.{w8}
use mir.Val.{Fits}
use Rattle.std.proofs.lemmas.List.{get_or-take, get_or-drop}
use Rattle.packet.specs.Packet.{bit_of, field}

-- a bit of the lower byte of two
low_bit : (hi lo s : ℕ) → lo < 256 → s ≤ 7 → (hi * 256 + lo) / 2 ^ s % 2 ≡ lo / 2 ^ s % 2
low_bit hi lo s h l =
    let e : 7 - s + (1 + s) ≡ 8 = omega arith in
    sym (pow.field (hi * 256 + lo) 1 s)
    ∙ ap (λ (x : ℕ). x / 2 ^ s)
    (sym (pow.mod-mod-pow (hi * 256 + lo) (7 - s) (1 + s))
    ∙ ap (λ (k : ℕ). (hi * 256 + lo) % 2 ^ k % 2 ^ (1 + s)) e
    ∙ ap (λ (x : ℕ). x % 2 ^ (1 + s)) (pow.low hi 8 h))
    ∙ pow.field lo 1 s

-- a bit of the upper one
high_bit : (hi lo s : ℕ) → lo < 256 → (hi * 256 + lo) / 2 ^ (8 + s) % 2 ≡ hi / 2 ^ s % 2
high_bit hi lo s h =
    ap (λ (x : ℕ). x % 2) (sym (pow.shr-shr (hi * 256 + lo) 8 s) ∙ ap (λ (x : ℕ). x / 2 ^ s) (pow.high hi 8 h))

module _ (bytes : List ℕ) (known : (i : ℕ) → Fits w8 (get_or bytes i 0)) where
  abbrev window : ℕ → ℕ
  window p = get_or bytes p 0 * 256 + get_or bytes (p + 1) 0

  bit_of_window : (at w : ℕ) → at % 8 + w < 16 → window (at / 8) / 2 ^ (15 - (at % 8 + w)) % 2 ≡ bit_of bytes (at + w)
  unfolding bit_of
  bit_of_window at w h = go (dec_le 8 (at % 8 + w))
    where
      go : Dec (8 ≤ at % 8 + w) → window (at / 8) / 2 ^ (15 - (at % 8 + w)) % 2 ≡ get_or bytes ((at + w) / 8) 0 / 2 ^ (7 - (at + w) % 8) % 2
      go (yes l) =
          let p : (at + w) / 8 ≡ at / 8 + 1 = omega arith in
          let s : 7 - (at + w) % 8 ≡ 15 - (at % 8 + w) = omega arith in
          rw (p, s) (low_bit (get_or bytes (at / 8) 0) (get_or bytes (at / 8 + 1) 0) (15 - (at % 8 + w)) (known (at / 8 + 1)).fits (omega arith))
      go (no l) =
          let p : (at + w) / 8 ≡ at / 8 = omega arith in
          let s : 15 - (at % 8 + w) ≡ 8 + (7 - (at + w) % 8) = omega arith in
          rw (p, s) (high_bit (get_or bytes (at / 8) 0) (get_or bytes (at / 8 + 1) 0) (7 - (at + w) % 8) (known (at / 8 + 1)).fits)

  pub window_is_field : (at w : ℕ) → at % 8 + w ≤ 16 → window (at / 8) / 2 ^ (16 - (at % 8 + w)) % 2 ^ w ≡ field bytes at w
  unfolding field
  window_is_field at zero h = mod-one (window (at / 8) / 2 ^ (16 - (at % 8 + 0)))
  window_is_field at (suc w) h =
      let s = 15 - (at % 8 + w) in
      let e : 16 - (at % 8 + suc w) ≡ s = omega arith in
      let f : s + 1 ≡ 16 - (at % 8 + w) = omega arith in
      let n = window (at / 8) / 2 ^ s in
      let high : n / 2 % 2 ^ w ≡ field bytes at w = ap (λ (x : ℕ). x % 2 ^ w) (pow.shr-shr (window (at / 8)) s 1 ∙ ap (λ (k : ℕ). window (at / 8) / 2 ^ k) f) ∙ window_is_field at w (omega arith) in
      let whole : n % 2 ^ suc w ≡ n / 2 % 2 ^ w * 2 + n % 2 = ap (λ (k : ℕ). n % 2 ^ k) (sym (add-one w)) ∙ pow.mod-pow-add n w 1 in
      rw e (whole ∙ ap₂ (λ (x y : ℕ). x * 2 + y) high (bit_of_window at w (omega arith)))

  pub byte_is_field : (at k : ℕ) → at ≡ 8 * k → get_or bytes k 0 ≡ field bytes at 8
  byte_is_field at k e =
      let p : at / 8 ≡ k = omega arith in
      let r : 16 - (at % 8 + 8) ≡ 8 = omega arith in
      let m : window k / 2 ^ 8 % 2 ^ 8 ≡ field bytes at 8 = rw (p, r) at (window_is_field at 8 (omega arith)) in
      sym (ap (λ (x : ℕ). x % 256) (pow.high (get_or bytes k 0) 8 (known (k + 1)).fits) ∙ mod-eq_of_lt (known k).fits) ∙ m

-- a field is below the power of its width
pub field_below : (bytes : List ℕ) (at w : ℕ) → field bytes at w < 2 ^ w
unfolding field bit_of
field_below bytes at zero = omega arith
field_below bytes at (suc w) =
    rw pow-suc (omega (arith, field_below bytes at w, mod-lt (get_or bytes ((at + w) / 8) 0 / 2 ^ (7 - (at + w) % 8)) {m = 2} (omega arith)))

module _ (bytes : List ℕ) (k n : ℕ) where
  bit_of-slice : (j : ℕ) → j < 8 * n → bit_of (take n (drop k bytes)) j ≡ bit_of bytes (8 * k + j)
  unfolding bit_of
  bit_of-slice j h =
      let p : (8 * k + j) / 8 ≡ k + j / 8 = omega arith in
      let r : (8 * k + j) % 8 ≡ j % 8 = omega arith in
      rw (p, r) (ap (λ (x : ℕ). x / 2 ^ (7 - j % 8) % 2) (get_or-take n (drop k bytes) (j / 8) 0 (omega arith) ∙ get_or-drop k bytes (j / 8) 0))

  -- a field of n bytes from byte k on
  pub field-slice : (at w : ℕ) → at + w ≤ 8 * n → field (take n (drop k bytes)) at w ≡ field bytes (8 * k + at) w
  unfolding field
  field-slice at zero h = refl
  field-slice at (suc w) h =
      let e : 8 * k + (at + w) ≡ 8 * k + at + w = omega arith in
      ap₂ (λ (x y : ℕ). x * 2 + y) (field-slice at w (omega arith)) (bit_of-slice (at + w) (omega arith) ∙ ap (bit_of bytes) e)
