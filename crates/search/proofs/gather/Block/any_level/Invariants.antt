-- `search::gather::Block::any_level` meets its contract: the flag stays false only while each level passed is 0.
-- Assumes nothing.
use mathlib.Core.Path.{◌≡◌}
use mathlib.Core.Bool.{false}
use Rattle.block.specs.Level.{ac_level}
use Rattle.search.specs.Gathering.{Zeros}
use Rattle.search.proofs.gather.Block.any_level.Given as goal

abbrev pub invariant-loop-k : goal.invariant-loop-k
invariant-loop-k l = l.any ≡ false → Zeros (ac_level l.self.levels.now) l.from l.k
