use Rattle.std.proofs.Common.{◌*◌, ◌-◌}
use Rattle.block.specs.Limits.{most_bits}
use Rattle.still.specs.Blocks.{count_of}
use Rattle.merge.specs.Passing.{Passing}
use Rattle.merge.proofs.Course.advance.Given as goal

abbrev pub invariant-loop-way : goal.invariant-loop-way
invariant-loop-way l = Passing l.fn.self l.self

abbrev pub decreases-loop-way : goal.decreases-loop-way
decreases-loop-way l = most_bits * count_of l.fn.self.search.still - l.self.point.bits.0
