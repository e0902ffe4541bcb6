-- `packet::level_of` meets its contract: below 2,048 the number is the level, and from there on the difference fits.
-- Assumes nothing.
use Prim.Native.Nat.{ℕ, ◌≤◌, ◌<◌}
use native.Mathlib.Omega.{arith}
use lib.IntN.{pos, ◌-ℤ◌}
use borrow.Author.Tests.{lt-ltb, le-ltb}
use mir.Syntax.{w16}
use mir.Val.{SFits}
use mir.Facts.{to_z_pos, to_z-of_z}
use Rattle.packet.specs.Packet.{twos_complement}
use Rattle.packet.proofs.Packed.{negative}
use Rattle.packet.proofs.level_of.Goals as goal

pub returns-then-n-lt2048 : goal.returns-then-n-lt2048
unfolding twos_complement
returns-then-n-lt2048 c = simp (lt-ltb _ _ c.if-n-lt2048.true) (to_z_pos w16 (omega arith))

difference_fits : (n : ℕ) → 2048 ≤ n → n < 4096 → SFits w16 (pos n -ℤ pos 4096)
difference_fits n l h = rw (negative n h) (record { sfits = omega arith })

pub returns : goal.returns
unfolding twos_complement
returns c =
    rw (to_z_pos w16 {n = c.args.n} (omega arith))
    (simp (le-ltb _ _ c.if-n-lt2048.false) (to_z-of_z {w = w16} (difference_fits c.args.n c.if-n-lt2048.false c.requires)))
