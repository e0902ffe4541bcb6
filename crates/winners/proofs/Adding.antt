-- Choices are added one after the other, and their sums stay so small that the next one's numbers can be added.
use Rattle.std.proofs.Common.{ℕ, ◌*◌, ◌≤◌, List}
use Rattle.block.specs.Limits.{most_bits, most_error}
use Rattle.answers.specs.declared.Point.{Point}
use Rattle.forward.specs.declared.Chosen.{Chosen}
use Rattle.winners.specs.Winners.{Sums}

-- the first i are added
pub record Adding (each : List Chosen) (p : Point) (i : ℕ) : Type 0 where
  pub sums : Sums each i p
  pub bits_most : p.bits.0 ≤ most_bits * i
  pub error_most : p.error.0 ≤ most_error * i
  pub kept_most : p.kept ≤ 64 * i
