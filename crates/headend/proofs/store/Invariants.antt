use Rattle.std.proofs.Common.{◌≡◌, ◌*◌, take}
use Rattle.headend.specs.HeadEnd.{bytes_of}
use Rattle.headend.proofs.store.Given as goal

abbrev pub invariant-loop-i : goal.invariant-loop-i
invariant-loop-i l = take (8 * l.i) l.keep ≡ bytes_of (take l.i l.numbers)
