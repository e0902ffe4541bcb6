-- The loop over the blocks: each turn stores one more block's best choice, or ends at the first block without one.
use Rattle.std.proofs.Common.{◌≡◌, None, Some, ℕ, ◌+◌, ◌<◌, ◌≤◌, List, length, take, slice_set, arith, refl, below_more, get_or-set_same, get_or-set_other, ◌≢◌}
use Rattle.std.proofs.lemmas.List.{get_or-take, length-take-le, take_all}
use Rattle.block.specs.Block.{Block}
use Rattle.corners.specs.Price.{Wins}
use Rattle.forward.specs.declared.Chosen.{Chosen}
use Rattle.forward.specs.Decision.{Decides}
use Rattle.attained.specs.Attained.{Attained, Gives}
use Rattle.attained.specs.Chosen.{none, chosen_at, pair_at}
use Rattle.attained.specs.Uncodable.{FirstUncodable}
use Rattle.attained.proofs.Chosen.{best_gives}
use Rattle.attained.proofs.Winning.{gives_wins, attained_bits, attained_error}
use Rattle.still.specs.declared.Still.{Still}
use Rattle.still.specs.Blocks.{block_in, count_of}
use Rattle.still.proofs.Blocks.{block_in_limits}
use Rattle.winners.specs.Winners.{Addable, Winners}

module _ {B : ℕ → Block} {a b : ℕ} {each : List Chosen} {i : ℕ} (w : Winners B i a b each) where
  pub winners_more : {p : Chosen} → i < length each → Decides (B i) a b (Some p) → Winners B (i + 1) a b (slice_set each i p)
  winners_more {p} l d = record {
    gives = below_more (λ (k : ℕ). Gives (B k) a b (pair_at (slice_set each i p) k) (chosen_at (slice_set each i p) k).keep) i
        (λ k h. let ne : k ≢ i = omega arith in rw get_or-set_other (w.gives k h))
        (rw (get_or-set_same each i p none l) (best_gives (d.best p refl)));
  }

  pub first_uncodable : {n : ℕ} → i < n → Decides (B i) a b None → FirstUncodable B n i
  first_uncodable l d = record {
    within = l;
    none = d.nothing refl;
    earlier = λ k h. let g = w.gives k h in record { choice = g.choice; codable = g.best.allowed };
  }

module _ (still : Still) where
  -- the winners of a still's blocks can be added, where the first places of a slice hold them
  pub firsts_addable : {a b n : ℕ} {each : List Chosen} → n ≡ count_of still → n ≤ length each → Winners (block_in still) n a b each → Addable (take n each)
  firsts_addable {a} {b} {n} {each} f l w = record {
    few = rw (length-take-le n each l) (omega (arith, still.sound.still.most));
    bits_most = λ i h. let m = within i h in rw (get_or-take n each i none m) (attained_bits (block_in still i) (block_in_limits still i (omega arith)) (wins i m).attained);
    error_most = λ i h. let m = within i h in rw (get_or-take n each i none m) (attained_error (block_in still i) (block_in_limits still i (omega arith)) (wins i m).attained);
  }
    where
      within : (i : ℕ) → i < length (take n each) → i < n
      within i h = rw (length-take-le n each l) at h

      wins : (i : ℕ) → i < n → Wins (Attained (block_in still i)) a b (pair_at each i)
      wins i m = gives_wins (block_in still i) (w.gives i m)

  -- and so where they fill it
  pub winners_addable : {a b n : ℕ} {each : List Chosen} → length each ≡ n → n ≡ count_of still → Winners (block_in still) n a b each → Addable each
  winners_addable {n = n} {each = each} e f w = rw (take_all n each (omega arith)) at (firsts_addable f (omega arith) w)
