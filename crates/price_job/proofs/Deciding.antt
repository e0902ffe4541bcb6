-- The winners of the blocks, and their keep numbers as they are stored, are what the price job promises.
use Rattle.std.proofs.Common.{◌≡◌, Ok, ℕ, ◌≤◌, List, length, map, take, refl}
use Rattle.std.proofs.lemmas.List.{get_or-take}
use Rattle.block.specs.Block.{Block}
use Rattle.forward.specs.declared.Chosen.{Chosen}
use Rattle.corners.specs.Still.{total}
use Rattle.attained.specs.Chosen.{none, pair_at}
use Rattle.answers.specs.declared.Point.{Point}
use Rattle.winners.specs.Winners.{Outcomes}
use Rattle.winners.proofs.Told.{told_winners}
use Rattle.winners.proofs.Storing.{keep_stored, kept_stored}
use Rattle.price_job.specs.PriceJob.{Priced, decides}

pub winners_priced : {B : ℕ → Block} {n a b : ℕ} {each : List Chosen} {p : Point} {before after : List ℕ} → Outcomes B n a b each (Ok p)
    → length before ≡ n → n ≤ length each → length after ≡ length before → after ≡ map (λ (c : Chosen). c.keep) (take (length before) each) → Priced B n a b before (Ok p) after
winners_priced {n = n} {each = each} o m r l e =
    let t = told_winners o in
    let f = rw m at e in
    decides (total (pair_at each) n)
    (record { pair = pair_at each; gives = λ i h. rw (f, keep_stored (take n each) i, get_or-take n each i none h) (t.0.gives i h); adds = refl })
    l (rw (t.1.bits, t.1.error, f, kept_stored each r t.1) refl)
