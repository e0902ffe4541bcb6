-- `halving::chords` meets its contract: each chord adds at most the bits of a block.
use Rattle.std.proofs.Common.{length, ◌*◌, ◌≤◌}
use Rattle.block.specs.Limits.{most_bits}
use Rattle.halving.proofs.chords.Given as goal

abbrev pub invariant-loop-dear : goal.invariant-loop-dear
invariant-loop-dear l = (length l.yielded ≤ length l.low) × (l.bits ≤ most_bits * length l.yielded)
