use Rattle.block.specs.Level.{ac_level}
use Rattle.search.specs.Gathering.{Placed}
use Rattle.search.proofs.gather.Block.place_range.Given as goal

abbrev pub invariant-loop-k : goal.invariant-loop-k
invariant-loop-k l = Placed (ac_level l.self.levels.now) l.levels l.n l.k
