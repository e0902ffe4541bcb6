-- The corners among some pairs, found by going on along the steepest line. Nothing is shown here: what is found is tested.
-- Assumes nothing.
use mathlib.Core.Bool.{Bool}
use mathlib.Core.List.{List, [], ◌∷◌}
use Prim.Native.Nat.{ℕ, zero, suc, ◌*◌, ◌-◌}
use lib.Dec.{ltb, eqb}
use lib.ListN.{length}
use Rattle.block.specs.First.{pick}
use Rattle.price.specs.Accepted.{most_on_bits}
use Rattle.corners.specs.Pair.{Pair}
use Rattle.examples.specs.Example.{pair}
use Rattle.examples.proofs.Truth.{both, either}

-- the line from T to X is steeper than that to N, or goes on farther
abbrev steeper : Pair → Pair → Pair → Bool
steeper T N X =
    let x = (T.error - X.error) * (N.bits - T.bits) in
    let n = (T.error - N.error) * (X.bits - T.bits) in
    both (ltb X.error T.error) (either (ltb n x) (both (eqb n x) (ltb N.bits X.bits)))

-- the end of the steepest line from T, of N and of the pairs L
unfoldable pub steepest : Pair → Pair → List Pair → Pair
steepest T N [] = N
steepest T N (X ∷ L) = pick (steeper T N X) (steepest T X L) (steepest T N L)

-- at most f corners of L behind T
unfoldable pub behind : List Pair → ℕ → Pair → List Pair
behind L zero T = []
behind L (suc f) T = let N = steepest T T L in pick (ltb T.bits N.bits) (N ∷ behind L f N) []

-- the first lies on the steepest line from no bits and more error than any block has
abbrev pub found : List Pair → List Pair
found L = behind L (length L) (pair 0 most_on_bits)
