-- Every accepted price gives an entry of the list: the point of the price job stands there, its kept number included; and every
-- entry is given by an accepted price.
-- Assumes nothing.
use mathlib.Core.Path.{◌≡◌, refl, sym, subst}
use mathlib.Core.List.{List, [], ◌∷◌, Memᴰ}
use mathlib.Core.Logic.{◌⊎◌, inl, inr}
use Prim.Native.Nat.{ℕ, zero, suc, ◌+◌, ◌*◌, ◌<◌}
use native.Mathlib.Omega.{arith}
use lib.ListN.{length, get_or}
use Rattle.block.specs.Block.{Block}
use Rattle.price.specs.Accepted.{Accepted}
use Rattle.corners.specs.Pair.{Pair}
use Rattle.corners.specs.Price.{Wins}
use Rattle.corners.specs.Still.{Attains}
use Rattle.corners.specs.Listed.{Given, CornerList, entry, entries}
use Rattle.corners.proofs.Winner.{wins_corner}
use Rattle.corners.proofs.Unique.{wins_unique}
use Rattle.corners.proofs.Sums.{total_wins}
use Rattle.corners.proofs.Agreement.{price_listed}
use Rattle.attained.specs.Attained.{Attained}
use Rattle.attained.proofs.Winning.{gives_wins, gives_smallest}
use Rattle.kept.specs.Kept.{kept_to}
use Rattle.merge.specs.CornerChoice.{CornerKept}
use Rattle.settled.proofs.OneChoice.{kept_unique}
use Rattle.price_job.specs.PriceJob.{Decided}
use Rattle.list_job.specs.ListJob.{Stored}
use Rattle.list_job.proofs.Unique.{entry_member}
use Rattle.agreement.specs.Listed.{InList, PriceOf}

-- where a pair of the list stands
pub record Place (out : List ℕ) (m : ℕ) (P : Pair) : Type 0 where
  pub at : ℕ
  pub inside : at < m
  pub is : entry out at ≡ P

member_place : (out : List ℕ) (m : ℕ) (P : Pair) → Memᴰ P (entries out m) → Place out m P
member_place out zero P h = absurd (mathlib.Core.List.Memᴰ.not-nil h)
member_place out (suc m) P h = go (mathlib.Core.List.Memᴰ.append_cases (entries out m) h) (member_place out m P)
  where
    go : Memᴰ P (entries out m) ⊎ Memᴰ P (entry out m ∷ []) → (Memᴰ P (entries out m) → Place out m P) → Place out (suc m) P
    go (inl p) r = let q = r p in record { at = q.at; inside = omega (arith, q.inside); is = q.is }
    go (inr p) r = record { at = m; inside = omega arith; is = sym (mathlib.Core.List.Memᴰ.eq_of_singleton p) }

module _ {B : ℕ → Block} {n a b : ℕ} {P : Pair} {keep : List ℕ} (d : Decided B n a b P keep) where
  wins : Wins (Attains (λ i. Attained (B i)) n) a b P
  wins = rw d.adds (total_wins (λ i. Attained (B i)) n a b d.pair (λ i l. gives_wins (B i) (d.gives i l)))

  keeps : CornerKept B n P (kept_to (λ i. get_or keep i 0) n)
  keeps = record {
    keep = λ i. get_or keep i 0;
    choice = record { pick = d.pair; smallest = λ i l. gives_smallest (B i) (d.gives i l); adds = d.adds };
    counts = refl;
  }

  pub agrees : Accepted a b → {L : List Pair} {before after : List ℕ} → CornerList (Attains (λ i. Attained (B i)) n) L → Stored B n L before after
      → InList after (length L) P (kept_to (λ i. get_or keep i 0) n)
  agrees h {L} {before} {after} C s =
      let p : Memᴰ P (entries after (length L)) = subst (λ (l : List Pair). Memᴰ P l) (sym s.pairs) (price_listed C h wins) in
      let q = member_place after (length L) P p in
      record {
        place = q.at;
        inside = q.inside;
        pair = q.is;
        keeps = kept_unique (wins_corner h.a_low wins) (subst (λ (X : Pair). CornerKept B n X (get_or after (3 * q.at + 2) 0)) q.is (s.kept q.at q.inside)) keeps;
      }

module _ {B : ℕ → Block} {n : ℕ} {L : List Pair} {before after : List ℕ} (C : CornerList (Attains (λ i. Attained (B i)) n) L) (s : Stored B n L before after) where
  pub given_back : (k : ℕ) → k < length L → PriceOf B n after k
  given_back k h =
      let g : Given (Attains (λ i. Attained (B i)) n) (entry after k) = C.given (entry after k) (subst (λ (l : List Pair). Memᴰ (entry after k) l) s.pairs (entry_member after (length L) k h)) in
      let same : (P : Pair) (keep : List ℕ) → Decided B n g.a g.b P keep → P ≡ entry after k = λ P keep d. wins_unique g.accepted.a_low (wins d) g.wins in
      record {
        a = g.a;
        b = g.b;
        accepted = g.accepted;
        pair = same;
        keeps = λ P keep d.
            kept_unique (wins_corner g.accepted.a_low g.wins)
            (subst (λ (X : Pair). CornerKept B n X (kept_to (λ i. get_or keep i 0) n)) (same P keep d) (keeps d)) (s.kept k h);
      }
