use Rattle.std.proofs.Common.{◌≡◌, ◌*◌, ◌/◌, ◌%◌, ◌^◌, false, eqb}
use Rattle.still.specs.Passed.{Passed, zero_kept}
use Rattle.still.proofs.any_bad_bit.Given as goal

abbrev pub invariant-loop-eight : goal.invariant-loop-eight
invariant-loop-eight l =
    (l.rest ≡ l.keep / 2 ^ (8 * l.eight-index)) × (l.bad ≡ false → (eqb (l.keep % 2) 1 ≡ false) × Passed (zero_kept l.block l.keep) (8 * l.eight-index))
