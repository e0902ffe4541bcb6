-- What a packet holds: how many of each, where each stands, and within which bounds.
-- Assumes nothing.
use mathlib.Core.Path.{◌≡◌, refl, sym, ap, ◌∙◌}
use Rattle.std.specs.Prelude.{◌≢◌}
use mathlib.Core.Bool.{Bool, true, false}
use mathlib.Core.List.{List}
use Prim.Native.Nat.{ℕ, zero, suc, ◌+◌, ◌-◌, ◌*◌, ◌≤◌, ◌<◌}
use native.Mathlib.Nat.{mul-suc}
use native.Mathlib.Omega.{arith}
use lib.Dec.{ltb}
use lib.IntN.{pos, negsuc, ◌-ℤ◌}
use lib.ListN.{length, get_or, take, drop, length-map, get_or-map}
use lib.Signed.{mag}
use borrow.Author.Tests.{le-leb, lt-leb, eq-eqb, ne_eqb, lt-ltb, ltb-true, ltb-false}
use mir.Syntax.{w8}
use mir.Val.{Fits}
use Rattle.block.specs.First.{pick}
use Rattle.answers.specs.Said.{fine, refuse}
use Rattle.packet.specs.Packet.{field, fields, steps_at, lengths_at, levels_at, twos_complement, packed_version, packed_blocks, packed_steps, packed_lengths, packed_levels, well_packed, packet_verdict}
use Rattle.packet.proofs.Window.{byte_is_field, field_below, field-slice}

fields_long : (bytes : List ℕ) (at w n : ℕ) → length (fields bytes at w n) ≡ n
unfolding fields
fields_long bytes at w zero = refl
fields_long bytes at w (suc n) = ap suc (fields_long bytes (at + w) w n)

fields_at : (bytes : List ℕ) (at w n i : ℕ) → i < n → get_or (fields bytes at w n) i 0 ≡ field bytes (at + w * i) w
unfolding fields
fields_at bytes at w zero i h = absurd (omega arith)
fields_at bytes at w (suc n) zero h = ap (λ (a : ℕ). field bytes a w) (omega arith)
fields_at bytes at w (suc n) (suc i) h = fields_at bytes (at + w) w n i (omega arith) ∙ ap (λ (a : ℕ). field bytes a w) (omega (arith, mul-suc w i))

-- a number of twelve bits from 2,048 on, less 4,096
pub negative : (n : ℕ) → n < 4096 → pos n -ℤ pos 4096 ≡ negsuc (4095 - n)
negative n h = simp (lt-ltb n 4096 h) (ap negsuc (omega arith))

-- from -2,048 to 2,047: `mag` takes -1 for 0, -2 for 1 and so on
complement_within : (n : ℕ) → n < 4096 → mag (twos_complement n) < 2048
unfolding twos_complement
complement_within n h = go (ltb n 2048) refl
  where
    go : (b : Bool) → ltb n 2048 ≡ b → mag (pick b (pos n) (pos n -ℤ pos 4096)) < 2048
    go true e = ltb-true n 2048 e
    go false e = rw (negative n h) (omega (arith, ltb-false n 2048 e))

module _ (packet : List ℕ) where
  pub blocks_least : 1 ≤ packed_blocks packet
  unfolding packed_blocks
  blocks_least = omega arith

  pub steps_long : length (packed_steps packet) ≡ 64
  unfolding packed_steps
  steps_long = fields_long packet steps_at 8 64

  pub steps_at_lem : (i : ℕ) → i < 64 → get_or (packed_steps packet) i 0 ≡ field packet (steps_at + 8 * i) 8
  unfolding packed_steps
  steps_at_lem i h = fields_at packet steps_at 8 64 i h

  pub lengths_long : length (packed_lengths packet) ≡ 256
  unfolding packed_lengths
  lengths_long = fields_long packet lengths_at 5 256

  pub lengths_at_lem : (i : ℕ) → i < 256 → get_or (packed_lengths packet) i 0 ≡ field packet (lengths_at + 5 * i) 5
  unfolding packed_lengths
  lengths_at_lem i h = fields_at packet lengths_at 5 256 i h

  pub levels_long : length (packed_levels packet) ≡ 64 * packed_blocks packet
  unfolding packed_levels
  levels_long = length-map (fields packet levels_at 12 (64 * packed_blocks packet)) twos_complement ∙ fields_long packet levels_at 12 (64 * packed_blocks packet)

  pub levels_at_lem : (i : ℕ) → i < 64 * packed_blocks packet → get_or (packed_levels packet) i (pos 0) ≡ twos_complement (field packet (levels_at + 12 * i) 12)
  unfolding packed_levels twos_complement
  levels_at_lem i h = get_or-map twos_complement (fields packet levels_at 12 (64 * packed_blocks packet)) i 0 ∙ ap twos_complement (fields_at packet levels_at 12 (64 * packed_blocks packet) i h)

  -- level i out of the n bytes from byte k on
  pub level-slice : (i k n at : ℕ) → i < 64 * packed_blocks packet → 8 * k + at ≡ levels_at + 12 * i → at + 12 ≤ 8 * n
      → twos_complement (field (take n (drop k packet)) at 12) ≡ get_or (packed_levels packet) i (pos 0)
  level-slice i k n at h e w = ap twos_complement (field-slice packet k n at 12 w ∙ ap (λ (a : ℕ). field packet a 12) e) ∙ sym (levels_at_lem i h)

  pub levels_within : (i : ℕ) → i < 64 * packed_blocks packet → mag (get_or (packed_levels packet) i (pos 0)) < 2048
  levels_within i h = rw (levels_at_lem i h) (complement_within (field packet (levels_at + 12 * i) 12) (field_below packet (levels_at + 12 * i) 12))

  pub accepted : well_packed packet ≡ true → packet_verdict packet ≡ fine
  unfolding packet_verdict
  accepted w = rw w

  pub refused : well_packed packet ≡ false → packet_verdict packet ≡ refuse 11 (length packet) 0
  unfolding packet_verdict
  refused w = rw w

  module _ (known : (i : ℕ) → Fits w8 (get_or packet i 0)) where
    version_at : get_or packet 0 0 ≡ packed_version packet
    unfolding packed_version
    version_at = byte_is_field packet known 0 0 refl

    pub blocks_at : get_or packet 1 0 + 1 ≡ packed_blocks packet
    unfolding packed_blocks
    blocks_at = ap (λ (n : ℕ). n + 1) (byte_is_field packet known 8 1 refl)

    -- what the three tests say of a packet of n blocks
    pub well : {n : ℕ} → 2 ≤ length packet → get_or packet 0 0 ≡ 1 → n ≡ packed_blocks packet → length packet ≡ 226 + 96 * n → well_packed packet ≡ true
    unfolding well_packed
    well s v b l = simp (le-leb _ _ s, eq-eqb _ _ (sym version_at ∙ v), eq-eqb _ _ (l ∙ ap (λ (k : ℕ). 226 + 96 * k) b))

    pub short : length packet < 2 → well_packed packet ≡ false
    unfolding well_packed
    short s = simp (lt-leb _ _ s)

    pub other_version : 2 ≤ length packet → get_or packet 0 0 ≢ 1 → well_packed packet ≡ false
    unfolding well_packed
    other_version s v = simp (le-leb _ _ s, ne_eqb (packed_version packet) 1 (λ e. v (version_at ∙ e)))

    pub other_length : {n : ℕ} → 2 ≤ length packet → get_or packet 0 0 ≡ 1 → n ≡ packed_blocks packet → length packet ≢ 226 + 96 * n → well_packed packet ≡ false
    unfolding well_packed
    other_length s v b l =
        let f = λ (k : ℕ). 226 + 96 * k in
        simp (le-leb _ _ s, eq-eqb _ _ (sym version_at ∙ v), ne_eqb (length packet) (f (packed_blocks packet)) (λ e. l (e ∙ sym (ap f b))))
