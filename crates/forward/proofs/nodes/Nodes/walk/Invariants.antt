-- What `walk` has added up on the way back to node k.
use Rattle.forward.proofs.Walking.{Walking}
use Rattle.forward.proofs.nodes.Nodes.walk.Given as goal

abbrev pub invariant-loop-k : goal.invariant-loop-k
invariant-loop-k l = Walking l.block.levels l.block.error.0 l.self l.at l.keep l.error l.k

abbrev pub decreases-loop-k : goal.decreases-loop-k
decreases-loop-k l = l.k
