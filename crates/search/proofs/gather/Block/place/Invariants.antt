use Prim.Native.Nat.{◌*◌}
use Rattle.block.specs.Level.{ac_level}
use Rattle.search.specs.Gathering.{Placed}
use Rattle.search.proofs.gather.Block.place.Given as goal

abbrev pub invariant-loop-g : goal.invariant-loop-g
invariant-loop-g l = Placed (ac_level l.self.levels.now) l.levels l.n (8 * l.g)
