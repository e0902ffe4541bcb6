-- `packet::field` meets its contract: the law of the window, at the mask that a shift of 1 makes.
-- Assumes nothing.
use mathlib.Core.Path.{◌≡◌, ap, ◌∙◌}
use Prim.Native.Nat.{ℕ, ◌*◌, ◌%◌, ◌^◌, ◌≤◌}
use native.Mathlib.Nat.{one-mul, mod-eq_of_lt, mod-lt}
use native.Mathlib.Omega.{arith}
use lib.Pow.{pow-lt, pow_pos}
use Rattle.packet.proofs.Window.{window_is_field}
use Rattle.packet.proofs.field.Goals as goal

mask : (w : ℕ) → w ≤ 12 → 1 * 2 ^ w % 65536 ≡ 2 ^ w
mask w h = ap (λ (x : ℕ). x % 65536) (one-mul (2 ^ w)) ∙ mod-eq_of_lt (pow-lt {i = w} {j = 16} (omega arith))

pub returns-clause-value : goal.returns-clause-value
returns-clause-value c =
    let a = c.args in
    rw (c.from_be_bytes-window.ensures, mask a.width (omega arith)) (window_is_field a.bytes.now c.type_inv.bytes a.at a.width (omega arith))

pub returns-clause-below : goal.returns-clause-below
returns-clause-below c = rw (mask c.args.width (omega arith)) (mod-lt _ (pow_pos c.args.width))
