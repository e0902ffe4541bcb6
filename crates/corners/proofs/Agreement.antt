-- Every accepted price gives a pair on the list; that each pair there is given by one is part of the list.
-- Assumes nothing.
use mathlib.Core.List.{List, Memᴰ}
use Prim.Native.Nat.{ℕ}
use Rattle.corners.specs.Pair.{Pair}
use Rattle.price.specs.Accepted.{Accepted}
use Rattle.corners.specs.Price.{Wins}
use Rattle.corners.specs.Listed.{CornerList}
use Rattle.corners.proofs.Winner.{wins_corner}

pub price_listed : {Att : Pair → Type 0} {L : List Pair} {a b : ℕ} {P : Pair} → CornerList Att L → Accepted a b → Wins Att a b P → Memᴰ P L
price_listed {P = P} l h w = l.complete P (wins_corner h.a_low w)
