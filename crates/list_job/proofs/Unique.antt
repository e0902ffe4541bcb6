-- The list job's promise settles its answer and the list.
-- Assumes nothing.
use mathlib.Core.Path.{◌≡◌, refl, sym, ap, subst, ◌∙◌}
use mathlib.Core.List.Memᴰ
use mathlib.Core.List.{List, [], ◌∷◌, ◌++◌, Memᴰ}
use Prim.Native.Nat.{ℕ, zero, suc, ◌+◌, ◌*◌, ◌/◌, ◌%◌, ◌≤◌, ◌<◌}
use native.Mathlib.Decide.{dec_le, ℕ_discrete}
use native.Mathlib.Omega.{arith}
use lib.IntN.{ℤ}
use lib.ListN.{length, get_or, length-append, get_or-append}
use lib.Seq.{ext_get_or, get_or-append-add}
use Rattle.block.specs.Block.{Block}
use Rattle.corners.specs.Pair.{Pair}
use Rattle.corners.specs.Corner.{Corner}
use Rattle.corners.specs.Still.{Attains}
use Rattle.corners.specs.Listed.{CornerList, entry, entries}
use Rattle.corners.proofs.Unique.{list_unique}
use Rattle.attained.specs.Attained.{Attained}
use Rattle.attained.specs.Uncodable.{HasChoice, FirstUncodable}
use Rattle.attained.proofs.Uncodable.{uncodable_unique}
use Rattle.std.specs.Prelude.{Result}
use Rattle.answers.specs.declared.Refusal.{Refusal}
use Rattle.answers.proofs.Same.{corners_same}
use Rattle.settled.proofs.OneChoice.{kept_unique}
use Rattle.list_job.specs.ListJob.{Stored, Lists, uncodable, short, lists, ListMeets, refuses, answers}

-- the entry at a place of the list's pairs
entries_long : (out : List ℕ) (m : ℕ) → length (entries out m) ≡ m
entries_long out zero = refl
entries_long out (suc m) = length-append (entries out m) (entry out m ∷ []) ∙ omega (arith, entries_long out m)

none : Pair
none = record { bits = 0; error = 0 }

entries_at : (out : List ℕ) (m k : ℕ) → k < m → get_or (entries out m) k none ≡ entry out k
entries_at out zero k h = absurd (omega arith)
entries_at out (suc m) k h = go (ℕ_discrete k m) (entries_at out m k)
  where
    go : Dec (k ≡ m) → (k < m → get_or (entries out m) k none ≡ entry out k) → get_or (entries out m ++ (entry out m ∷ [])) k none ≡ entry out k
    go (yes e) f =
        let l : k ≡ length (entries out m) + 0 = omega (arith, entries_long out m) in
        ap (λ (j : ℕ). get_or (entries out m ++ (entry out m ∷ [])) j none) l ∙ get_or-append-add (entries out m) (entry out m ∷ []) 0 none ∙ ap (entry out) (sym e)
    go (no u) f = get_or-append (entries out m) (entry out m ∷ []) none k (omega (arith, entries_long out m)) ∙ f (omega arith)

entry_is : (x y : List ℕ) (m k : ℕ) → k < m → entries x m ≡ entries y m → entry x k ≡ entry y k
entry_is x y m k h e = sym (entries_at x m k h) ∙ ap (λ (l : List Pair). get_or l k none) e ∙ entries_at y m k h

-- an entry is one of the list's pairs
pub entry_member : (out : List ℕ) (m k : ℕ) → k < m → Memᴰ (entry out k) (entries out m)
entry_member out zero k h = absurd (omega arith)
entry_member out (suc m) k h = go (ℕ_discrete k m) (entry_member out m k)
  where
    go : Dec (k ≡ m) → (k < m → Memᴰ (entry out k) (entries out m)) → Memᴰ (entry out k) (entries out m ++ (entry out m ∷ []))
    go (yes e) f = Memᴰ.append_right (entries out m) (Memᴰ.head (ap (entry out) e))
    go (no u) f = Memᴰ.append_left (entry out m ∷ []) (f (omega arith))

module _ {B : ℕ → Block} {n : ℕ} where
  -- a number of the list by its place: of an entry, or behind
  stored_at : {L : List Pair} {before x y : List ℕ} → CornerList (Attains (λ i. Attained (B i)) n) L → Stored B n L before x → Stored B n L before y
      → (j : ℕ) → Dec (3 * length L ≤ j) → get_or x j 0 ≡ get_or y j 0
  stored_at C s t j (yes h) = s.behind j h ∙ sym (t.behind j h)
  stored_at {L} {before} {x} {y} C s t j (no h) = part (j % 3) refl
    where
      inside : j / 3 < length L
      inside = omega arith

      same : entry x (j / 3) ≡ entry y (j / 3)
      same = entry_is x y (length L) (j / 3) inside (s.pairs ∙ sym t.pairs)

      corner : Corner (Attains (λ i. Attained (B i)) n) (entry x (j / 3))
      corner = C.sound (entry x (j / 3)) (subst (λ (l : List Pair). Memᴰ (entry x (j / 3)) l) s.pairs (entry_member x (length L) (j / 3) inside))

      part : (p : ℕ) → j % 3 ≡ p → get_or x j 0 ≡ get_or y j 0
      part zero e =
          let q : 3 * (j / 3) ≡ j = omega arith in
          subst (λ (i : ℕ). get_or x i 0 ≡ get_or y i 0) q (ap (λ (P : Pair). P.bits) same)
      part (suc zero) e =
          let q : 3 * (j / 3) + 1 ≡ j = omega arith in
          subst (λ (i : ℕ). get_or x i 0 ≡ get_or y i 0) q (ap (λ (P : Pair). P.error) same)
      part (suc (suc zero)) e =
          let q : 3 * (j / 3) + 2 ≡ j = omega arith in
          subst (λ (i : ℕ). get_or x i 0 ≡ get_or y i 0) q
          (kept_unique corner (s.kept (j / 3) inside) (rw same (t.kept (j / 3) inside)))
      part (suc (suc (suc p))) e = absurd (omega arith)

  stored_unique : {L : List Pair} {before x y : List ℕ} → CornerList (Attains (λ i. Attained (B i)) n) L → Stored B n L before x → Stored B n L before y → x ≡ y
  stored_unique {L} {x = x} {y = y} C s t = ext_get_or 0 x y (s.count ∙ sym t.count) (λ j l. stored_at C s t j (dec_le (3 * length L) j))

  codable : {i : ℕ} → ((i : ℕ) → i < n → HasChoice (B i)) → FirstUncodable B n i → ⊥
  codable {i} all u = let h = all i u.within in u.none h.choice h.codable

  lists_unique : {before x y : List ℕ} {r s : Result ℕ Refusal} → Lists B n before r x → Lists B n before s y → (r ≡ s) × (x ≡ y)
  lists_unique {r = r} {s = s} (uncodable i u p q) (uncodable j v o k) = let e = uncodable_unique u v in (corners_same r s (cc), cc)
  lists_unique (uncodable i u p q) (short a L C h o k) = absurd (codable a u)
  lists_unique (uncodable i u p q) (lists a L C h o t) = absurd (codable a u)
  lists_unique (short a L C h o k) (uncodable i u p q) = absurd (codable a u)
  lists_unique {r = r} {s = s} (short a L C h o k) (short b M D g p q) = let e = list_unique C D in (corners_same r s (cc), cc)
  lists_unique (short a L C h o k) (lists b M D g p t) = absurd (omega (arith, ap length (list_unique C D)))
  lists_unique (lists a L C h o t) (uncodable i u p q) = absurd (codable a u)
  lists_unique (lists a L C h o t) (short b M D g p q) = absurd (omega (arith, ap length (list_unique C D)))
  lists_unique {r = r} {s = s} (lists a L C h o t) (lists b M D g p u) =
      let e = list_unique C D in
      (corners_same r s (cc), stored_unique C t (rw (sym e) at u))

pub unique : {levels : List ℤ} {steps lengths : List ℕ} {before x y : List ℕ} {r s : Result ℕ Refusal}
    → ListMeets levels steps lengths before r x → ListMeets levels steps lengths before s y → (r ≡ s) × (x ≡ y)
unique {r = r} {s = s} (refuses n d e v p q) (refuses m f g w o k) = (corners_same r s (cc), cc)
unique {r = r} {s = s} (refuses n d e v p q) (answers w t) = (corners_same r s (cc), cc)
unique {r = r} {s = s} (answers v t) (refuses m f g w o k) = (corners_same r s (cc), cc)
unique (answers v t) (answers w u) = lists_unique t u
