-- From the walk along the corners to the job's answer: what is remembered is stored, or the list is walked again.
-- Assumes nothing.
use Rattle.std.proofs.Common.{◌≡◌, refl, ap, sym, subst, ◌∙◌, Result, Ok, Err, IsErrAnd, ℤ, ℕ, zero, suc, ◌+◌, ◌-◌, ◌*◌, ◌/◌, ◌≤◌, ◌<◌, List, ◌++◌, length, get_or, take, drop, arith}
use Rattle.std.proofs.lemmas.List.{get_or-take, get_or-drop, get_or-append_right, length-take-le, length-drop}
use lib.ListN.{get_or-append, length-append}
use Rattle.block.specs.Block.{Block}
use Rattle.price.specs.Accepted.{most_on_bits}
use Rattle.corners.specs.Pair.{Pair}
use Rattle.corners.specs.Price.{Least}
use Rattle.corners.specs.Still.{total}
use Rattle.corners.specs.Listed.{entry, entries}
use Rattle.corners.proofs.Corners.{pair_path}
use Rattle.corners.proofs.Dearest.{dearest_fewest}
use Rattle.corners.proofs.Sums.{total_same}
use Rattle.corners.proofs.Unique.{list_unique}
use Rattle.forward.specs.declared.Chosen.{Chosen}
use Rattle.attained.specs.Attained.{block_at, Attained}
use Rattle.attained.specs.Chosen.{pair_in, pair_at}
use Rattle.attained.specs.Uncodable.{HasChoice}
use Rattle.attained.proofs.Winning.{gives_wins, attained_error}
use Rattle.answers.specs.declared.Refusal.{Refusal}
use Rattle.answers.specs.Said.{said_refusal, said_corners, corners, refused}
use Rattle.still.specs.declared.Still.{Still}
use Rattle.still.specs.Blocks.{count_of, block_in}
use Rattle.still.proofs.Blocks.{block_in_limits}
use Rattle.winners.specs.Winners.{Winners, Outcomes, Outcomes.all, Outcomes.uncodable}
use Rattle.answers.specs.declared.Point.{Point}
use Rattle.merge.specs.declared.Course.{Course}
use Rattle.merge.specs.Standing.{corner_at}
use Rattle.merge.specs.SettingOut.{SetOut}
use Rattle.walk.specs.Written.{Walked}
use Rattle.walk.specs.Walking.{StillAttains, First}
use Rattle.walk.proofs.Writing.{all_pairs, all_kept, all_behind}
use Rattle.list_job.specs.ListJob.{Lists, Lists.short, Lists.lists}
use Rattle.list_job.specs.Listing.{AreEnds}

-- What is told of an error that is passed on.
pub said_err : (r : Result ℕ Refusal) (x : Refusal) → IsErrAnd r (λ e. e ≡ x) → said_corners r ≡ said_refusal x
said_err (Err e) x h = ap said_refusal h
said_err (Ok n) x h = absurd h

-- What is said of the blocks of a still is said of those that were lent.
pub lists_lent : (s : Still) {levels : List ℤ} {steps lengths before after : List ℕ} {r : Result ℕ Refusal} → s.levels.now ≡ levels → s.steps.now ≡ steps
    → s.lengths.now ≡ lengths → Lists (block_in s) (count_of s) before r after → Lists (block_at levels steps lengths) (length levels / 64) before r after
lists_lent s a b c h = rw (← a, ← b, ← c) h

won : {B : ℕ → Block} {n a b : ℕ} {each : List Chosen} {p : Point} → Outcomes B n a b each (Ok p) → Winners B n a b each
won (all q w s e) = w
won (uncodable i u e) = cc

-- the winners of a still that is the same
pub won_on : {s t : Still} {a b : ℕ} {each : List Chosen} {p : Point} → s ≡ t → Outcomes (block_in s) (count_of s) a b each (Ok p) → Winners (block_in t) (count_of t) a b each
won_on {a = a} {b = b} {each = each} e o = subst (λ (s : Still). Winners (block_in s) (count_of s) a b each) e (won o)

module _ {s : Still} {first last : List Chosen} where
  pub are_ends : Winners (block_in s) (count_of s) 1 most_on_bits first → Winners (block_in s) (count_of s) 1 0 last
      → length first ≡ count_of s → length last ≡ count_of s → AreEnds s first last
  are_ends w v e f = record {
    ends = record { high = most_on_bits; above = omega arith; winners = w; goals_win = v; from_count = omega (arith, e); goals_count = omega (arith, f) };
    least = dearest_fewest (λ i. Attained (block_in s i)) (count_of s) most_on_bits (pair_at first)
        (λ i l X x. omega (arith, attained_error (block_in s i) (block_in_limits s i l) x)) (λ i l. gives_wins (block_in s i) (w.gives i l));
  }

  pub ends_codable : AreEnds s first last → (i : ℕ) → i < count_of s → HasChoice (block_in s i)
  ends_codable e i l = let g = e.ends.winners.gives i l in record { choice = g.choice; codable = g.best.allowed }

  -- Where the blocks set out they are at the first corner.
  pub at_first : {t : Still} {c : Course} → t ≡ s → AreEnds s first last → SetOut t 0 first c → First c
  at_first {c = c} q e o = record {
    a = o.a;
    b = o.b;
    standing = o.standing;
    low_is = o.low_is;
    least = subst (λ (t : Still). Least (StillAttains t) 0 1 (total (corner_at c) (count_of t))) (sym (o.still_is ∙ q))
        (subst (λ (P : Pair). Least (StillAttains s) 0 1 P)
        (sym (total_same (corner_at c) (pair_at first) (count_of s) (λ i l. ap pair_in (o.present i (subst (λ (t : Still). i < count_of t) (sym q) l))))) e.least);
  }

-- entries of equal numbers are equal
entries_same : (x y : List ℕ) (k : ℕ) → ((j : ℕ) → j < 3 * k → get_or x j 0 ≡ get_or y j 0) → entries x k ≡ entries y k
entries_same x y zero h = refl
entries_same x y (suc k) h =
    let s = entries_same x y k (λ j l. h j (omega arith)) in
    let e : entry x k ≡ entry y k = pair_path (entry x k) (entry y k) (h (3 * k) (omega arith)) (h (3 * k + 1) (omega arith)) in
    cc

-- the first m numbers of one list, and the rest of another
module _ (m : ℕ) (seen list : List ℕ) (in_seen : m ≤ length seen) (in_list : m ≤ length list) where
  abbrev copied : List ℕ
  copied = take m seen ++ drop m list

  copied_long : length copied ≡ length list
  copied_long = grind (arith, length-append, length-take-le, length-drop)

  copied_first : (k : ℕ) → k < m → get_or copied k 0 ≡ get_or seen k 0
  copied_first k h = get_or-append (take m seen) (drop m list) 0 k (omega (arith, length-take-le m seen in_seen)) ∙ get_or-take m seen k 0 h

  copied_behind : (k : ℕ) → m ≤ k → get_or copied k 0 ≡ get_or list k 0
  copied_behind k h =
      let e : m + (k - m) ≡ k = omega arith in
      get_or-append_right (take m seen) (drop m list) m k 0 (length-take-le m seen in_seen) h ∙ get_or-drop m list (k - m) 0 ∙ ap (λ (j : ℕ). get_or list j 0) e

module _ {B : ℕ → Block} {n : ℕ} (all : (i : ℕ) → i < n → HasChoice (B i)) {seen seen' list : List ℕ} {c : ℕ} (w : Walked B n seen c seen') where
  pub too_short : {r : Result ℕ Refusal} → length list / 3 < c → said_corners r ≡ refused 8 c 0 → Lists B n list r list
  too_short h s = short all w.list w.corners (omega (arith, w.size, h)) (rw w.size s) refl

  pub stored_seen : {r : Result ℕ Refusal} → 3 * c ≤ length seen → c ≤ length list / 3 → said_corners r ≡ corners c
      → Lists B n list r (take (3 * c) seen' ++ drop (3 * c) list)
  stored_seen room enough s =
      let fits : 3 * length w.list ≤ length seen = omega (arith, w.size) in
      let in_seen : 3 * c ≤ length seen' = omega (arith, w.written.long) in
      let in_list : 3 * c ≤ length list = omega arith in
      let first = copied_first (3 * c) seen' list in_seen in_list in
      lists all w.list w.corners (omega (arith, w.size)) (rw w.size s) (record {
        count = copied_long (3 * c) seen' list in_seen in_list;
        pairs = entries_same (take (3 * c) seen' ++ drop (3 * c) list) seen' (length w.list) (λ j l. first j (omega (arith, w.size))) ∙ all_pairs w.written fits;
        kept = λ k l. rw (first (3 * k) (omega (arith, w.size)), first (3 * k + 1) (omega (arith, w.size)), first (3 * k + 2) (omega (arith, w.size)))
            (all_kept w.written fits k l);
        behind = λ j l. copied_behind (3 * c) seen' list in_seen in_list j (omega (arith, w.size));
      })

  -- walked again, into the list itself
  pub stored_again : {after : List ℕ} {d : ℕ} {r : Result ℕ Refusal} → c ≤ length list / 3 → Walked B n list d after → said_corners r ≡ corners c
      → Lists B n list r after
  stored_again {after} enough v s =
      let same : length v.list ≡ c = ap length (list_unique v.corners w.corners) ∙ w.size in
      let fits : 3 * length v.list ≤ length list = omega (arith, same) in
      lists all v.list v.corners fits (rw same s)
      (record { count = v.written.long; pairs = all_pairs v.written fits; kept = all_kept v.written fits; behind = all_behind v.written fits })
