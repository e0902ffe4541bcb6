-- The still's corners, merged from its blocks': the blocks with the steepest way go on together.
-- Assumes nothing.
use mathlib.Core.Path.{◌≡◌, refl}
use mathlib.Core.List.{List, [], ◌∷◌, ◌++◌}
use Prim.Native.Nat.{ℕ, ◌*◌, ◌≤◌, ◌<◌}
use native.Mathlib.Omega.{arith}
use native.Mathlib.Decide.{dec_le}
use Rattle.corners.specs.Pair.{Pair}
use Rattle.price.specs.Accepted.{Accepted}
use Rattle.corners.specs.Price.{Least, Wins}
use Rattle.corners.specs.Still.{total, Attains}
use Rattle.corners.specs.Listed.{CornerList}
use Rattle.corners.specs.Fits.{Fits}
use Rattle.corners.specs.Merging.{SoFar, Stands, Goes}
use Rattle.corners.proofs.Slopes.{slope_trans, right_pos}
use Rattle.corners.proofs.Winner.{vertex_corner}
use Rattle.corners.proofs.Sums.{total_least, sum_more}
use Rattle.corners.proofs.Listing.{start, step, finish}
use Rattle.corners.proofs.Moves.{near, goes_flat, goes_far, goes_there, goes_grows}
use Rattle.corners.proofs.Budget.{edge_fits}

module _ (A : ℕ → Pair → Type 0) (n : ℕ) (C : ℕ → Pair) (c d : ℕ → ℕ) {a b : ℕ} (each : (i : ℕ) → i < n → Stands (A i) a b (C i) (c i) (d i)) where
  here : Attains A n (total C n)
  here = record { pick = C; each = λ i l. (each i l).corner.attained; adds = refl }

  inward : Least (Attains A n) a b (total C n)
  inward = total_least A n a b C (λ i l. (each i l).inward)

  -- The list starts where the blocks have the least bits.
  pub merge_start : Least (Attains A n) 0 1 (total C n) → SoFar (Attains A n) [] a b (total C n)
  merge_start h = start (Attains A n) a b (total C n) here inward h

  -- The still goes on by (a', b'), which no block's price is steeper than.
  module _ (C' : ℕ → Pair) {a' b' : ℕ} (goes : (i : ℕ) → i < n → Goes (A i) a' b' (C i) (c i) (d i) (C' i)) (steep : a * b' < b * a') where
    outward : Least (Attains A n) a' b' (total C n)
    outward = total_least A n a' b' C (λ i l. near (each i l) a' b' steep (goes_flat (each i l) (goes i l)))

    there : Attains A n (total C' n)
    there = record { pick = C'; each = λ i l. goes_there (each i l) (goes i l); adds = refl }

    inward' : Least (Attains A n) a' b' (total C' n)
    inward' = total_least A n a' b' C' (λ i l. goes_far (each i l) steep (goes i l))

    -- Where one block moves, the still has more bits.
    pub merge_more : (k : ℕ) → k < n → (C k).bits < (C' k).bits → (total C n).bits < (total C' n).bits
    merge_more = sum_more n C C' (λ i l. goes_grows (each i l) (goes i l))

    -- One corner more is listed.
    pub merge_step : {L : List Pair} → SoFar (Attains A n) L a b (total C n) → Accepted a' b' → (total C n).bits < (total C' n).bits
        → SoFar (Attains A n) (L ++ (total C n ∷ [])) a' b' (total C' n)
    merge_step S acc more = step S a' b' acc steep outward (total C' n) there inward' more

    -- The budget lies between: the present corner is the answer.
    pub merge_fits : (budget : ℕ) → (total C n).bits ≤ budget → budget < (total C' n).bits → Fits (Attains A n) budget (total C n)
    merge_fits budget h k =
        edge_fits (vertex_corner (Attains A n) a b a' b' (total C n) here steep inward outward) a' b' (right_pos _ b a' steep)
        outward (total C' n) there inward' budget h k

  -- No block's price is steeper than (r, f).
  module _ (r f : ℕ) (pos : 1 ≤ r) (top : (i : ℕ) → i < n → d i * r ≤ f * c i) where
    -- Nor is that steeper than (1, low): all blocks are cheapest at (1, low).
    merge_low : (low : ℕ) → a * low < b → f ≤ r * low → Least (Attains A n) 1 low (total C n)
    merge_low low l h = total_least A n 1 low C λ i m.
        near (each i m) 1 low (omega arith) (slope_trans (c i) (d i) r f 1 low pos (top i m) (omega arith))

    -- So (r, f) is steeper while the still has fewer bits than its corner at (1, low).
    pub merge_steep : {low : ℕ} {P : Pair} → a * low < b → Wins (Attains A n) 1 low P → (total C n).bits < P.bits → r * low < f
    merge_steep {low} {P} l w k = go (dec_le f (r * low))
      where
        go : Dec (f ≤ r * low) → r * low < f
        go (no h) = omega arith
        go (yes h) =
            absurd (omega (arith, w.fewest (total C n) here (omega (arith, merge_low low l h P w.attained, w.least (total C n) here))))

    -- No fall is left: the list is complete.
    pub merge_finish : {L : List Pair} → f ≡ 0 → 1 ≤ b → SoFar (Attains A n) L a b (total C n) → CornerList (Attains A n) (L ++ (total C n ∷ []))
    merge_finish e l S = finish S l (merge_low 0 (omega arith) (omega arith))
