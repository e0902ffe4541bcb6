-- `Course::go_on` meets its contract: the block at the root of the tournament goes its way, and the tournament hears of it.
use Rattle.std.proofs.Common.{refl, ap, sym, subst, ◌∙◌, ℕ, take, slice_set, arith, length-set}
use Rattle.still.specs.Blocks.{count_of}
use Rattle.steepest.specs.Ways.{WayAsSteep}
use Rattle.steepest.specs.Tournament.{IsTournament}
use Rattle.steepest.proofs.Changed.{IsStale-take_set}
use Rattle.merge.proofs.Played.{top_within}
use Rattle.merge.proofs.Moving.{may_exchange, gone}
use Rattle.merge.proofs.Course.go_on.Goals as goal

pub mend-requires : goal.mend-requires
mend-requires c =
    let p = c.requires.played in
    rw c.len-n.ensures (record {
      stale = IsStale-take_set c.args.self.now.ways c.args.self.now.seats (count_of c.args.self.now.search.still) c.top-k.result c.next_way.result
          (omega (arith, top_within p, c.top-k.ensures.root)) p.within p.tournament;
    })

pub exchange-self-requires : goal.exchange-self-requires
exchange-self-requires c =
    let few = c.args.self.now.search.still.sound.still.most in
    may_exchange c.requires c.top-k.ensures.root c.next_way.ensures.next (omega (arith, top_within c.requires.played, c.top-k.ensures.root))

pub returns : goal.returns
returns c =
    let few = c.args.self.now.search.still.sound.still.most in
    let p = c.requires.played in
    let still = c.next_way.ensures.still in
    gone c.requires c.top-k.ensures.root c.next_way.ensures.next _ refl refl
    (omega (arith, top_within p, c.top-k.ensures.root)) (omega (arith, top_within p, c.top-k.ensures.root))
    (record { still = still; low = refl })
    (record {
      tournament = subst (λ (m : ℕ). IsTournament WayAsSteep (take m (slice_set c.args.self.now.ways c.top-k.result c.next_way.result)) c.mend.new.seats)
          (c.len-n.ensures ∙ sym (ap count_of still)) c.mend.ensures.tournament;
      within = omega (arith, ap count_of still, p.within, length-set c.args.self.now.ways c.top-k.result c.next_way.result);
    })
    c.exchange-self.ensures
