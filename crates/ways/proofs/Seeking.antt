-- A search at the price of the line to the nearest known corner ends the seeking or brings a nearer corner.
-- Assumes nothing.
use Rattle.std.proofs.Common.{◌≡◌, refl, ap, sym, ◌∙◌, ◌-◌, ◌<◌, arith}
use Rattle.block.specs.Block.{Block}
use Rattle.block.specs.Limits.{Limits}
use Rattle.corners.specs.Price.{Wins}
use Rattle.corners.specs.Corner.{Corner}
use Rattle.corners.specs.Merging.{ahead}
use Rattle.corners.proofs.Corners.{pair_path, corner_falls}
use Rattle.corners.proofs.Winner.{wins_corner}
use Rattle.corners.proofs.Next.{nearer, way_on}
use Rattle.attained.specs.Attained.{Attained, Gives}
use Rattle.attained.specs.Chosen.{pair_in}
use Rattle.attained.proofs.Winning.{gives_wins, gives_smallest, attained_bits, attained_error}
use Rattle.forward.specs.declared.Chosen.{Chosen}
use Rattle.steepest.specs.declared.way.Way.{Way}
use Rattle.ways.specs.declared.Route.{Route}
use Rattle.ways.specs.Known.{corner_of, Known, FoundWay}
use Rattle.ways.specs.Looking.{nearest, run_to, fall_to, Reaches, Remembered, Seeks}
use Rattle.ways.proofs.Remembering.{known_more}

pub seeks_start : {B : Block} {route : Route} → Known B (corner_of route) route.height route.known → Seeks B route route
seeks_start k = record { present = refl; known = k; goal = refl }

module _ {B : Block} {route now : Route} (c : Corner (Attained B) (corner_of route)) (s : Seeks B route now) where
  bits_here : (corner_of now).bits ≡ (corner_of route).bits
  bits_here = ap (λ (x : Chosen). x.bits.0) s.present

  error_here : (corner_of now).error ≡ (corner_of route).error
  error_here = ap (λ (x : Chosen). x.error.0) s.present

  near_corner : Corner (Attained B) (nearest now)
  near_corner = s.known.corner (now.height - 1) (omega (arith, s.known.some))

  more : (corner_of route).bits < (nearest now).bits
  more = s.known.beyond (now.height - 1) (omega (arith, s.known.some))

  less : (nearest now).error < (corner_of route).error
  less = corner_falls near_corner (corner_of route) c.attained more

  pub seeks_reaches : Limits B → Reaches now
  seeks_reaches l = record {
    some = s.known.some;
    most = s.known.most;
    more = omega (arith, more, bits_here);
    less = omega (arith, less, error_here);
    run_most = attained_bits B l near_corner.attained;
    fall_most = omega (arith, attained_error B l c.attained, error_here);
  }

  module _ {w : Chosen} (g : Gives B (run_to now) (fall_to now) (pair_in w) w.keep) where
    wins : Wins (Attained B) ((nearest now).bits - (corner_of route).bits) ((corner_of route).error - (nearest now).error) (pair_in w)
    wins = rw (← bits_here, ← error_here) (gives_wins B g)

    -- The search gives the bits of the present corner: the way on leads to the nearest known corner.
    pub seeks_end : {line : Way} → line.run ≡ run_to now → line.fall ≡ fall_to now → w.bits.0 ≡ (corner_of now).bits → FoundWay B route line now
    seeks_end {line} run fall e = record {
      present = s.present;
      known = s.known;
      goal = s.goal;
      way = rw (run, fall, bits_here, error_here) (way_on c near_corner more wins (e ∙ bits_here));
      top = rw (run, fall, bits_here, error_here) (pair_path (nearest now) (ahead (corner_of route) ((nearest now).bits - (corner_of route).bits) ((corner_of route).error - (nearest now).error))
          (omega (arith, more)) (omega (arith, less)));
    }

    -- It gives others: a nearer corner, from which the seeking goes on.
    module _ (n : ¬ (w.bits.0 ≡ (corner_of now).bits)) {after : Route} (m : Remembered now w after) where
      between : ((corner_of route).bits < w.bits.0) × (w.bits.0 < (nearest now).bits)
      between = nearer c near_corner more wins (λ e. n (e ∙ sym bits_here))

      pub seeks_on : Seeks B route after
      seeks_on = record {
        present = m.present ∙ s.present;
        known = known_more s.known m (wins_corner (omega (arith, more)) wins) (gives_smallest B g) between.0 between.1;
        goal = m.rest 0 (omega (arith, m.above)) ∙ s.goal;
      }

      pub seeks_nearer : (nearest after).bits < (nearest now).bits
      seeks_nearer = omega (arith, ap (λ (x : Chosen). x.bits.0) m.corner, between.1)
