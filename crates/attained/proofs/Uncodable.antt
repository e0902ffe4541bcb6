-- There is at most one first block without a codable choice.
-- Assumes nothing.
use mathlib.Core.Path.{◌≡◌}
use Prim.Native.Nat.{ℕ, ◌≤◌}
use native.Mathlib.Nat.{le_antisymm}
use native.Mathlib.Decide.{dec_le}
use native.Mathlib.Omega.{arith}
use Rattle.block.specs.Block.{Block}
use Rattle.attained.specs.Uncodable.{HasChoice, FirstUncodable}

module _ {B : ℕ → Block} {n : ℕ} where
  not_before : {i j : ℕ} → FirstUncodable B n i → FirstUncodable B n j → i ≤ j
  not_before {i} {j} p q = go (dec_le i j)
    where
      go : Dec (i ≤ j) → i ≤ j
      go (yes l) = l
      go (no l) = let h : HasChoice (B j) = p.earlier j (omega arith) in absurd (q.none h.choice h.codable)

  pub uncodable_unique : {i j : ℕ} → FirstUncodable B n i → FirstUncodable B n j → i ≡ j
  uncodable_unique p q = le_antisymm (not_before p q) (not_before q p)
