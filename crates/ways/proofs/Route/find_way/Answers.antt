-- Each turn brings a nearer corner, until the nearest known one is the next.
-- Assumes nothing.
use Rattle.std.proofs.Common.{◌∙◌, arith}
use Rattle.attained.specs.Attained.{Gives}
use Rattle.attained.specs.Chosen.{pair_in}
use Rattle.forward.specs.Decision.{Decides}
use Rattle.still.specs.Blocks.{block_in}
use Rattle.still.proofs.Blocks.{block_in_limits}
use Rattle.ways.specs.Looking.{run_to, fall_to}
use Rattle.attained.proofs.Chosen.{answer_gives, never_nothing}
use Rattle.ways.proofs.Seeking.{seeks_reaches, seeks_end, seeks_on, seeks_nearer}
use Rattle.ways.proofs.Route.find_way.Goals as goal
use Rattle.ways.proofs.Route.find_way.Goals.{After-look, After-unwrap-best}

decided : (c : After-look) → Decides (block_in c.args.search.now.still c.args.i) (run_to c.loop-self.self) (fall_to c.loop-self.self) c.look.result
decided c =
    rw (← c.loop-self.invariant.still, ← c.line-line.ensures.0, ← c.line-line.ensures.1, ← c.price_of.ensures.0, ← c.price_of.ensures.1)
    (c.look.ensures.decides c.args.i c.loop-self.invariant.holds)

gives : (c : After-unwrap-best) → Gives (block_in c.args.search.now.still c.args.i) (run_to c.loop-self.self) (fall_to c.loop-self.self) (pair_in c.unwrap-best.result) c.unwrap-best.result.keep
gives c = answer_gives (decided (goal.at.After-unwrap-best c).After-look) c.unwrap-best.ensures

pub loop-self-preserved : goal.loop-self-preserved
loop-self-preserved c = record {
  seeks = seeks_on c.requires.corner c.loop-self.invariant.seeks (gives (goal.at.loop-self-preserved c).After-unwrap-best) (λ e. omega (arith, c.if-best-self.false)) c.remember.ensures;
  holds = c.look.ensures.holds c.args.i c.loop-self.invariant.holds;
  still = c.look.ensures.still ∙ c.loop-self.invariant.still;
}

pub loop-self-smaller : goal.loop-self-smaller
loop-self-smaller c = seeks_nearer c.requires.corner c.loop-self.invariant.seeks (gives (goal.at.loop-self-smaller c).After-unwrap-best) (λ e. omega (arith, c.if-best-self.false)) c.remember.ensures

pub returns-then-best-self-clause-way : goal.returns-then-best-self-clause-way
returns-then-best-self-clause-way c =
    seeks_end c.requires.corner c.loop-self.invariant.seeks (gives (goal.at.returns-then-best-self-clause-way c).After-unwrap-best) c.line-line.ensures.0 c.line-line.ensures.1
    c.if-best-self.true

pub line-line-requires : goal.line-line-requires
line-line-requires c = seeks_reaches c.requires.corner c.loop-self.invariant.seeks (block_in_limits c.args.search.now.still c.args.i c.requires.within)

pub unwrap-best-requires : goal.unwrap-best-requires
unwrap-best-requires c = never_nothing c.requires.corner (decided c)
