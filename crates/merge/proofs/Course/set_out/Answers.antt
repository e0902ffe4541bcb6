-- `Course::set_out` meets its contract: each turn sends one block more on its way, and the tournament is built of the ways.
use Rattle.std.proofs.Common.{refl, sym, subst, ap, ◌∙◌, ℕ, ◌≤◌, take, length, arith}
use Rattle.corners.specs.Corner.{Corner}
use Rattle.attained.specs.Attained.{Attained}
use Rattle.still.specs.declared.Still.{Still}
use Rattle.still.specs.Blocks.{count_of, block_in}
use Rattle.steepest.specs.Ways.{WayAsSteep}
use Rattle.steepest.specs.Tournament.{IsTournament}
use Rattle.std.proofs.lemmas.List.{length-take-le}
use Rattle.winners.specs.Winners.{Winners, Sums}
use Rattle.winners.proofs.Winning.{winners_addable}
use Rattle.winners.proofs.Sums.{sums_taken}
use Rattle.ways.specs.Known.{corner_of, Known}
use Rattle.merge.specs.Going.{Found}
use Rattle.merge.proofs.SettingOut.{aimed_corner, aimed_known, headed_more, set_out, winners_taken}
use Rattle.merge.proofs.Course.set_out.Goals as goal

pub way_on-requires-clause-corner : goal.way_on-requires-clause-corner
way_on-requires-clause-corner c =
    subst (λ (s : Still). Corner (Attained (block_in s c.loop-i.i)) (corner_of c.route_to-route.result)) (sym c.loop-i.invariant.still_is)
    (aimed_corner c.requires.ends (omega (arith, c.len-n.ensures)) c.route_to-route.ensures)

pub way_on-requires-clause-known : goal.way_on-requires-clause-known
way_on-requires-clause-known c u =
    subst (λ (s : Still). Known (block_in s c.loop-i.i) (corner_of c.route_to-route.result) c.route_to-route.result.height c.route_to-route.result.known)
    (sym c.loop-i.invariant.still_is) (aimed_known c.requires.ends (omega (arith, c.len-n.ensures)) c.route_to-route.ensures u)

pub listed : goal.listed
listed c = omega (arith, c.loop-i.invariant.ways_long, c.args.self.now.search.still.sound.still.most)

pub loop-i-preserved : goal.loop-i-preserved
loop-i-preserved c =
    headed_more c.requires.ends (omega (arith, c.len-n.ensures)) c.route_to-route.ensures c.loop-i.invariant c.way_on.ensures.still refl refl refl
    (subst (λ (s : Still). Found (block_in s c.loop-i.i) c.args.low c.route_to-route.result c.way_on.result c.way_on.new.route)
    c.loop-i.invariant.still_is c.way_on.ensures.found)

pub together-self-requires : goal.together-self-requires
together-self-requires c =
    let few : c.len-n.result ≤ length c.args.from.now = omega (arith, c.len-n.ensures, c.requires.ends.from_count) in
    winners_addable c.args.self.now.search.still (length-take-le c.len-n.result c.args.from.now few) c.len-n.ensures
    (winners_taken c.args.from.now
    (subst (λ (m : ℕ). Winners (block_in c.args.self.now.search.still) m 1 c.requires.ends.high c.args.from.now) (sym c.len-n.ensures) c.requires.ends.winners))

pub returns : goal.returns
returns c =
    let H = c.loop-i.invariant in
    record {
      set_out = set_out c.requires.ends
          (record {
            still_is = H.still_is;
            low_is = H.low_is;
            routes_long = H.routes_long;
            ways_long = H.ways_long;
            present = λ j l. H.present j (omega (arith, c.len-n.ensures));
            heads = λ j l. H.heads j (omega (arith, c.len-n.ensures));
          })
          (subst (λ (m : ℕ). Sums c.args.from.now m c.together-self.result) c.len-n.ensures
          (sums_taken c.args.from.now c.len-n.result (omega (arith, c.len-n.ensures, c.requires.ends.from_count)) c.together-self.ensures))
          (record {
            tournament = subst (λ (m : ℕ). IsTournament WayAsSteep (take m c.loop-i.self.ways) c.build.new.seats)
                (c.len-n.ensures ∙ sym (ap count_of H.still_is)) c.build.ensures.tournament;
            within = omega (arith, H.ways_long, ap count_of H.still_is, c.args.self.now.search.still.sound.still.most);
          });
    }
