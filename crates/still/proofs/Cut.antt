-- The levels of blocks, one after the other: an index is a block and a position in it, and a search goes on from block to block.
-- Assumes nothing.
use Rattle.std.proofs.Common.{◌≡◌, ℕ, zero, suc, ◌+◌, ◌*◌, ◌≤◌, ◌<◌, Bool, List, [], ◌∷◌, ◌++◌, length, get_or, take, drop, Some, None, refl, ap, ◌∙◌, ℤ, arith}
use Rattle.std.proofs.Math.Seq.{drop-append-add}
use Rattle.std.proofs.lemmas.List.{take-append-drop, take-append-le, take_all, length-append, length-drop, drop-drop}
use Rattle.std.specs.Simd.{first_chunks}
use Rattle.block.specs.Level.{levels_of}
use Rattle.answers.specs.Said.{refuse}
use Rattle.still.specs.Passed.{Passed, first_of, levels_in}
use Rattle.still.specs.Refusals.{when_first, at_place}
use Rattle.still.proofs.First.{passed_more, first_of_at, passed_where_none, bad_where_some, when_first_some}
use Rattle.still.proofs.Place.{block_of_lem, position_of}

-- the part of a list at place b, of those of n that it is cut into
pub chunk_at : {X : Type 0} (n k b m : ℕ) (xs : List X) → m ≡ b * n → b < k → get_or (first_chunks n k xs) b [] ≡ take n (drop m xs)
chunk_at n zero b m xs e h = absurd (omega arith)
chunk_at n (suc k) zero m xs e h = let z : m ≡ 0 = omega arith in rw z
chunk_at n (suc k) (suc b) m xs e h =
    let s : m ≡ n + b * n = omega arith in chunk_at n k b (b * n) (drop n xs) refl (omega arith) ∙ rw (drop-drop, s)

-- a list cut into parts that leave no rest
pub levels_in-chunks : (n k : ℕ) (levels : List ℤ) → length levels ≡ k * n → levels_in (first_chunks n k levels) ≡ levels
levels_in-chunks n zero [] e = refl
levels_in-chunks n zero (x ∷ xs) e = absurd (omega arith)
levels_in-chunks n (suc k) levels e =
    ap (λ (r : List ℤ). take n levels ++ r) (levels_in-chunks n k (drop n levels) (omega (arith, length-drop n levels))) ∙ take-append-drop n levels

-- blocks of 64 levels
abbrev pub Whole : List (List ℤ) → Type 0
Whole blocks = (b : ℕ) → b < length blocks → length (get_or blocks b []) ≡ 64

pub length-levels_in : (blocks : List (List ℤ)) → Whole blocks → length (levels_in blocks) ≡ 64 * length blocks
length-levels_in [] whole = refl
length-levels_in (x ∷ xs) whole =
    let here : length x ≡ 64 = whole 0 (omega arith) in
    let rest = length-levels_in xs (λ b h. whole (suc b) (omega arith)) in omega (arith, length-append x (levels_in xs))

pub levels_of-levels_in : (blocks : List (List ℤ)) → Whole blocks → (b : ℕ) → b < length blocks → levels_of (levels_in blocks) b ≡ get_or blocks b []
levels_of-levels_in [] whole b h = absurd (omega arith)
levels_of-levels_in (x ∷ xs) whole zero h =
    let here : length x ≡ 64 = whole 0 (omega arith) in take-append-le 64 x (levels_in xs) (omega arith) ∙ take_all 64 x (omega arith)
levels_of-levels_in (x ∷ xs) whole (suc b) h =
    let here : length x ≡ 64 = whole 0 (omega arith) in
    let s : 64 * suc b ≡ length x + 64 * b = omega arith in
    rw (s, drop-append-add x (levels_in xs) (64 * b)) (levels_of-levels_in xs (λ k l. whole (suc k) (omega arith)) b (omega arith))

-- a search that has passed b blocks, where a test of positions is that of the next one
module _ {bad at : ℕ → Bool} (b : ℕ) (same : (k : ℕ) → k < 64 → bad (64 * b + k) ≡ at k) (before : Passed bad (64 * b)) where
  pub block_passed : None ≡ first_of at 64 → Passed bad (64 * (b + 1))
  block_passed e = passed_more (64 * b) 64 (64 * (b + 1)) (omega arith) before (λ k h. same k h ∙ passed_where_none at 64 e k h)

  pub block_told : (n number k : ℕ) → Some k ≡ first_of at 64 → 64 * b + 64 ≤ n → refuse number b k ≡ when_first bad n (at_place number)
  block_told n number k e h =
      let f = bad_where_some at 64 k e in
      let l : k < 64 = f.0 in
      let before_k = passed_more (64 * b) k (64 * b + k) refl before (λ j m. same j (omega arith) ∙ f.1 j m) in
      let told = when_first_some bad n (at_place number) (64 * b + k) (first_of_at bad n (64 * b + k) (omega arith) before_k (same k l ∙ f.2)) in
      rw (block_of_lem b k l, position_of b k l) at told
