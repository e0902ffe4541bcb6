-- The block at the root of the tournament has the steepest way, and it hears of a change of one block's way.
-- Assumes nothing.
use Rattle.std.proofs.Common.{◌≡◌, ℕ, ◌*◌, ◌≤◌, ◌<◌, length, take, arith}
use Rattle.std.proofs.lemmas.List.{get_or-take, length-take-le}
use Rattle.still.specs.Blocks.{count_of}
use Rattle.steepest.specs.Slope.{AsSteep-reflexive, AsSteep-transitive}
use Rattle.steepest.specs.Ways.{WayAsSteep}
use Rattle.steepest.specs.Tournament.{IsTop}
use Rattle.steepest.proofs.Root.{root_top}
use Rattle.steepest.proofs.Steepest.{steepest_read}
use Rattle.merge.specs.declared.Course.{Course}
use Rattle.merge.specs.Standing.{at, no_way, IsPlayed, top_of, steepest_of}

module _ {c : Course} (p : IsPlayed c) where
  many : length (take (count_of c.search.still) c.ways) ≡ count_of c.search.still
  many = length-take-le (count_of c.search.still) c.ways p.within

  root : IsTop WayAsSteep (take (count_of c.search.still) c.ways) (top_of c)
  root = root_top WayAsSteep (λ x. AsSteep-reflexive x.run x.fall)
      (λ x y z first second. AsSteep-transitive x.run x.fall y.run y.fall z.run z.fall y.some_run first second)
      (take (count_of c.search.still) c.ways) c.seats p.tournament

  pub top_within : top_of c < count_of c.search.still
  top_within = omega (arith, root.within, many)

  -- no block's way is steeper
  pub flat : (i : ℕ) → i < count_of c.search.still → (at c i).way.fall * (steepest_of c).run ≤ (steepest_of c).fall * (at c i).way.run
  flat i l = rw (get_or-take (count_of c.search.still) c.ways i no_way l, get_or-take (count_of c.search.still) c.ways (top_of c) no_way top_within) at
      (steepest_read (take (count_of c.search.still) c.ways) (top_of c) root i no_way (omega (arith, many)))
