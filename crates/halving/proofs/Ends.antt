-- The winners of a still's blocks at a price: one block more, the first ones of a longer slice, and what they come to.
use Rattle.std.proofs.Common.{◌≡◌, ℕ, ◌+◌, ◌<◌, ◌≤◌, ◌≢◌, List, ◌++◌, length, take, slice_set, arith, below_more, get_or-set_same, get_or-set_other}
use Rattle.std.proofs.lemmas.List.{get_or-take, get_or_append_left, length-take-le}
use Rattle.block.specs.Block.{Block}
use Rattle.block.specs.Limits.{most_bits}
use Rattle.forward.specs.declared.Chosen.{Chosen}
use Rattle.attained.specs.Chosen.{none, chosen_at}
use Rattle.attained.proofs.Winning.{attained_bits, attained_error}
use Rattle.answers.specs.declared.Point.{Point}
use Rattle.still.specs.declared.Still.{Still}
use Rattle.still.specs.Blocks.{block_in, count_of}
use Rattle.still.proofs.Blocks.{block_in_limits}
use Rattle.winners.specs.Winners.{Addable, Sums, Winners}
use Rattle.winners.proofs.Sums.{sums_same}
use Rattle.halving.specs.declared.End.{End}
use Rattle.halving.specs.Won.{Won, WonAt}
use Rattle.halving.specs.Brackets.{EndAt, Taken}
use Rattle.halving.proofs.Won.{gives_won}

module _ {B : ℕ → Block} {b : ℕ} where
  pub won_more : {each : List Chosen} {i : ℕ} {choice : Chosen} → WonAt B i b each → i < length each → Won (B i) b choice
      → WonAt B (i + 1) b (slice_set each i choice)
  won_more {each} {i} {choice} h l w = record {
    won = below_more (λ (k : ℕ). Won (B k) b (chosen_at (slice_set each i choice) k)) i
        (λ k m. let ne : k ≢ i = omega arith in rw get_or-set_other (h.won k m))
        (rw (get_or-set_same each i choice none l) w);
  }

  pub won_same : {xs ys : List Chosen} {n : ℕ} → ((i : ℕ) → i < n → chosen_at ys i ≡ chosen_at xs i) → WonAt B n b xs → WonAt B n b ys
  won_same h w = record { won = λ i l. rw (h i l) (w.won i l) }

-- What a price gives to all blocks, with the rest of a longer slice behind, is an end.
pub winners_end : {B : ℕ → Block} {n b : ℕ} {front : List Chosen} (back : List Chosen) {p : Point} → length front ≡ n → Winners B n 1 b front → Sums front n p
    → EndAt B n (record { price = b; each = front ++ back; point = p })
winners_end {n = n} {front = front} back e w s =
    let same : (i : ℕ) → i < n → chosen_at (front ++ back) i ≡ chosen_at front i = λ i l. get_or_append_left front back none i (omega arith) in
    record { won = won_same same (record { won = λ i l. gives_won (w.gives i l) }); sums = sums_same same s }

-- An end that is taken over is one.
pub end_taken : {B : ℕ → Block} {n : ℕ} {other e : End} → Taken n other e → EndAt B n other → EndAt B n e
end_taken t h = record {
  won = rw t.price (won_same t.chosen h.won);
  sums = rw t.point (sums_same t.chosen h.sums);
}

module _ (still : Still) where
  pub won_bits : {n b : ℕ} {each : List Chosen} → n ≤ count_of still → WonAt (block_in still) n b each
      → (i : ℕ) → i < n → (chosen_at each i).bits.0 ≤ most_bits
  won_bits l w i h =
      let m : i < count_of still = omega arith in attained_bits (block_in still i) (block_in_limits still i m) (w.won i h).wins.attained

  -- The winners of a still's blocks can be added.
  pub won_addable : {n b : ℕ} {each : List Chosen} → n ≤ length each → n ≡ count_of still → WonAt (block_in still) n b each → Addable (take n each)
  won_addable {n} {b} {each} l e w =
      let k : length (take n each) ≡ n = length-take-le n each l in
      record {
        few = omega (arith, still.sound.still.most);
        bits_most = λ i h. let j : i < n = omega arith in let m : i < count_of still = omega arith in rw (get_or-take n each i none j) (won_bits (omega arith) w i j);
        error_most = λ i h. let j : i < n = omega arith in let m : i < count_of still = omega arith in
            rw (get_or-take n each i none j) (attained_error (block_in still i) (block_in_limits still i m) (w.won i j).wins.attained);
      }
