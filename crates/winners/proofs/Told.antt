-- What an outcome tells by its case: the first block without a codable choice, or the winners and what they come to.
use Rattle.std.proofs.Common.{◌≡◌, Ok, Err, ℕ, List}
use Rattle.block.specs.Block.{Block}
use Rattle.forward.specs.declared.Chosen.{Chosen}
use Rattle.attained.specs.Uncodable.{FirstUncodable}
use Rattle.answers.specs.declared.Point.{Point}
use Rattle.winners.specs.declared.Uncodable.{Uncodable}
use Rattle.winners.specs.Winners.{Winners, Sums, Outcomes, all, uncodable}

module _ {B : ℕ → Block} {n a b : ℕ} {each : List Chosen} where
  pub told_uncodable : {u : Uncodable} → Outcomes B n a b each (Err u) → FirstUncodable B n u.block
  told_uncodable (all p w s e) = cc
  told_uncodable {u} (uncodable j f e) = let k : j ≡ u.block = cc in rw k at f

  pub told_winners : {p : Point} → Outcomes B n a b each (Ok p) → Winners B n a b each × Sums each n p
  told_winners {p} (all q w s e) = let k : q ≡ p = cc in (w, rw k at s)
  told_winners (uncodable j f e) = cc
