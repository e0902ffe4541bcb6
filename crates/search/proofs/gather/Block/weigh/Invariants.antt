use lib.ListN.{get_or}
use Rattle.block.specs.Level.{ac_level}
use Rattle.search.specs.Gathering.{Weighed}
use Rattle.search.proofs.gather.Block.weigh.Given as goal

abbrev pub invariant-loop-i : goal.invariant-loop-i
invariant-loop-i l = Weighed (ac_level l.self.levels.now) (λ k. get_or l.self.steps.now k 0) l.fn.levels l.levels l.total l.i
