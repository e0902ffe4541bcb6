-- The list of the corners, made one by one.
-- Assumes nothing.
use mathlib.Core.Path.{◌≡◌, refl, sym, subst}
use mathlib.Core.List.Memᴰ
use mathlib.Core.List.{List, [], ◌∷◌, ◌++◌, Memᴰ}
use mathlib.Core.Logic.{◌⊎◌, inl, inr}
use Prim.Native.Nat.{ℕ, ◌*◌, ◌≤◌, ◌<◌}
use native.Mathlib.Omega.{arith}
use native.Mathlib.Decide.{dec_le}
use Rattle.corners.specs.Pair.{Pair}
use Rattle.price.specs.Accepted.{Accepted}
use Rattle.corners.specs.Price.{Least}
use Rattle.corners.specs.Corner.{Corner}
use Rattle.corners.specs.Listed.{Rising, Given, CornerList}
use Rattle.corners.specs.Merging.{SoFar}
use Rattle.corners.proofs.Slopes.{right_pos}
use Rattle.corners.proofs.Winner.{vertex_wins, vertex_corner}
use Rattle.corners.proofs.Edge.{none_between, none_behind}

-- What holds of the pairs of a list and of one more holds of the longer list's.
on_snoc : (F : Pair → Type 0) (L : List Pair) (T : Pair) → ((P : Pair) → Memᴰ P L → F P) → F T
    → (P : Pair) → Memᴰ P (L ++ (T ∷ [])) → F P
on_snoc F L T f t P m = go (Memᴰ.append_cases L m)
  where
    go : Memᴰ P L ⊎ Memᴰ P (T ∷ []) → F P
    go (inl n) = f P n
    go (inr n) = subst F (sym (Memᴰ.eq_of_singleton n)) t

rising_snoc : (L : List Pair) (T : Pair) → Rising L → ((P : Pair) → Memᴰ P L → P.bits < T.bits) → Rising (L ++ (T ∷ []))
rising_snoc [] T r b = (λ Q m. absurd (Memᴰ.not-nil m), tt)
rising_snoc (P ∷ L) T r b =
    (on_snoc (λ Q. P.bits < Q.bits) L T r.0 (b P (Memᴰ.head refl)), rising_snoc L T r.1 (λ Q m. b Q (Memᴰ.tail m)))

mem_end : (L : List Pair) (P T : Pair) → P ≡ T → Memᴰ P (L ++ (T ∷ []))
mem_end L P T e = Memᴰ.append_right L (Memᴰ.head e)

-- The first corner has the least bits.
pub start : (Att : Pair → Type 0) (a b : ℕ) (T : Pair) → Att T → Least Att a b T → Least Att 0 1 T → SoFar Att [] a b T
start Att a b T t inward h = record {
  attained = t;
  inward = inward;
  rising = tt;
  below = λ P m. absurd (Memᴰ.not-nil m);
  sound = λ P m. absurd (Memᴰ.not-nil m);
  given = λ P m. absurd (Memᴰ.not-nil m);
  complete = λ P c l. absurd (omega (arith, h P c.attained));
}

module _ {Att : Pair → Type 0} {L : List Pair} {a b : ℕ} {T : Pair} (S : SoFar Att L a b T) (a' b' : ℕ) (acc : Accepted a' b')
    (steep : a * b' < b * a') (outward : Least Att a' b' T) where
  rising : Rising (L ++ (T ∷ []))
  rising = rising_snoc L T S.rising S.below

  sound : (P : Pair) → Memᴰ P (L ++ (T ∷ [])) → Corner Att P
  sound = on_snoc (Corner Att) L T S.sound (vertex_corner Att a b a' b' T S.attained steep S.inward outward)

  given : (P : Pair) → Memᴰ P (L ++ (T ∷ [])) → Given Att P
  given = on_snoc (Given Att) L T S.given
      (record { a = a'; b = b'; accepted = acc; wins = vertex_wins Att a b a' b' T S.attained steep S.inward outward })

  -- One corner more: `T` is cheapest at a flatter price too, and so is `T'`, with more bits.
  pub step : (T' : Pair) → Att T' → Least Att a' b' T' → T.bits < T'.bits → SoFar Att (L ++ (T ∷ [])) a' b' T'
  step T' att' inward' more = record {
    attained = att';
    inward = inward';
    rising = rising;
    below = on_snoc (λ P. P.bits < T'.bits) L T (λ P m. omega (arith, S.below P m)) more;
    sound = sound;
    given = given;
    complete = λ P c k. find P c k (dec_le T.bits P.bits);
  }
    where
      find : (P : Pair) → Corner Att P → P.bits < T'.bits → Dec (T.bits ≤ P.bits) → Memᴰ P (L ++ (T ∷ []))
      find P c k (yes h) = mem_end L P T (none_between Att T S.attained a' b' T' (right_pos _ b a' steep) outward att' inward' P c h k)
      find P c k (no h) = Memᴰ.append_left (T ∷ []) (S.complete P c (omega arith))

-- The last corner has the least error.
pub finish : {Att : Pair → Type 0} {L : List Pair} {a b : ℕ} {T : Pair} → SoFar Att L a b T → 1 ≤ b → Least Att 1 0 T
    → CornerList Att (L ++ (T ∷ []))
finish {Att} {L} {a} {b} {T} S l outward = record {
  rising = rising S 1 0 (omega arith) (omega arith) outward;
  sound = sound S 1 0 (omega arith) (omega arith) outward;
  given = given S 1 0 (omega arith) (omega arith) outward;
  complete = λ P c. find P c (dec_le T.bits P.bits);
}
  where
    find : (P : Pair) → Corner Att P → Dec (T.bits ≤ P.bits) → Memᴰ P (L ++ (T ∷ []))
    find P c (yes h) = mem_end L P T (none_behind Att T S.attained outward P c h)
    find P c (no h) = Memᴰ.append_left (T ∷ []) (S.complete P c (omega arith))
