use Rattle.std.proofs.Common.{◌≡◌, length}
use Rattle.still.specs.Blocks.{block_in}
use Rattle.halving.specs.Won.{WonAt}
use Rattle.halving.proofs.End.decide_between.Given as goal

abbrev pub invariant-loop-i : goal.invariant-loop-i
invariant-loop-i l =
    (l.search.still ≡ l.fn.search.still) × WonAt (block_in l.fn.search.still) l.i l.price l.self.each × (l.self.price ≡ l.price) × (length l.self.each ≡ 1024)
