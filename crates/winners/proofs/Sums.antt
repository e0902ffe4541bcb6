-- The same choices come to the same, whatever slice holds them; so do the first ones of a longer slice.
use Rattle.std.proofs.Common.{◌≡◌, ℕ, ◌<◌, ◌≤◌, List, length, take, ap, sym, ◌∙◌}
use Rattle.std.proofs.lemmas.List.{get_or-take, length-take-le}
use Rattle.corners.specs.Pair.{Pair}
use Rattle.corners.proofs.Sums.{total_same}
use Rattle.forward.specs.declared.Chosen.{Chosen}
use Rattle.attained.specs.Chosen.{none, chosen_at, pair_in, pair_at}
use Rattle.answers.specs.declared.Point.{Point}
use Rattle.winners.specs.Winners.{Sums}
use Rattle.winners.proofs.Storing.{kept_same}

pub sums_same : {xs ys : List Chosen} {n : ℕ} {p : Point} → ((i : ℕ) → i < n → chosen_at ys i ≡ chosen_at xs i) → Sums xs n p → Sums ys n p
sums_same {xs} {ys} {n} h s =
    let e = total_same (pair_at ys) (pair_at xs) n (λ i l. ap pair_in (h i l)) in
    let k = kept_same (λ i. (chosen_at ys i).keep) (λ i. (chosen_at xs i).keep) n (λ i l. ap (λ (c : Chosen). c.keep) (h i l)) in
    record {
      bits = s.bits ∙ ap (λ (P : Pair). P.bits) (sym e);
      error = s.error ∙ ap (λ (P : Pair). P.error) (sym e);
      kept = s.kept ∙ sym k;
    }

pub sums_taken : (each : List Chosen) (n : ℕ) {p : Point} → n ≤ length each → Sums (take n each) (length (take n each)) p → Sums each n p
sums_taken each n l s =
    sums_same (λ i h. sym (get_or-take n each i none h)) (rw (length-take-le n each l) at s)
