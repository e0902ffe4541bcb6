-- The blocks of a checked still are those of the levels, steps and lengths that were lent.
use Rattle.std.proofs.Common.{◌≡◌, ℕ, ◌/◌, List, ℤ, length, subst}
use Rattle.block.specs.Block.{Block}
use Rattle.attained.specs.Attained.{block_at}
use Rattle.still.specs.declared.Still.{Still}
use Rattle.still.specs.Blocks.{block_in, count_of}

pub lent_blocks : (still : Still) {levels : List ℤ} {steps lengths : List ℕ} (P : (ℕ → Block) → ℕ → Type 0)
    → (still.levels.now ≡ levels) × (still.steps.now ≡ steps) × (still.lengths.now ≡ lengths)
    → P (block_in still) (count_of still) → P (block_at levels steps lengths) (length levels / 64)
lent_blocks still {levels} {steps} P e h =
    subst (λ (z : List ℕ). P (block_at levels steps z) (length levels / 64)) e.2
    (subst (λ (y : List ℕ). P (block_at levels y still.lengths.now) (length levels / 64)) e.1
    (subst (λ (x : List ℤ). P (block_at x still.steps.now still.lengths.now) (length x / 64)) e.0 h))
