-- The keep numbers that are stored are those of the choices, and keep as many coefficients.
use Rattle.std.proofs.Common.{◌≡◌, ℕ, zero, suc, ◌<◌, ◌≤◌, List, length, map, take, get_or, refl, arith}
use Rattle.std.proofs.Math.ListN.{get_or-map, length-map}
use Rattle.std.proofs.lemmas.List.{get_or-take, length-take-le}
use Rattle.forward.specs.declared.Chosen.{Chosen}
use Rattle.attained.specs.Chosen.{none, chosen_at}
use Rattle.kept.specs.Kept.{kept_to, kept_of}
use Rattle.answers.specs.declared.Point.{Point}
use Rattle.winners.specs.Winners.{Sums}

pub kept_same : (f g : ℕ → ℕ) (n : ℕ) → ((i : ℕ) → i < n → f i ≡ g i) → kept_to f n ≡ kept_to g n
kept_same f g zero h = refl
kept_same f g (suc n) h =
    let s = kept_same f g n (λ i l. h i (omega arith)) in let e = h n (omega arith) in rw (s, e)

module _ (each : List Chosen) where
  pub keep_stored : (i : ℕ) → get_or (map (λ (c : Chosen). c.keep) each) i 0 ≡ (chosen_at each i).keep
  keep_stored i = get_or-map (λ (c : Chosen). c.keep) each i none

  -- those of the first n choices
  pub kept_stored : {n : ℕ} {p : Point} → n ≤ length each → Sums each n p → p.kept ≡ kept_of (map (λ (c : Chosen). c.keep) (take n each))
  kept_stored {n} l s =
      rw (s.kept, length-map, length-take-le n each l)
      (kept_same _ _ n (λ i h. rw (get_or-map (λ (c : Chosen). c.keep) (take n each) i none, get_or-take n each i none h) refl))
