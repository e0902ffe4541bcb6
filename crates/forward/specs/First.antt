-- One turn of a scan, by cost alone and by cost and bits: what `Quick::met` and `Exact::met` promise.
use Rattle.std.specs.Prelude.{◌≡◌, ℕ, ◌≤◌, ◌<◌}
use Rattle.forward.specs.declared.first.Quick.{Quick}
use Rattle.forward.specs.declared.first.Rank.{Rank}
use Rattle.forward.specs.declared.first.Exact.{Exact}

pub data Weighed (s : Quick) (c j : ℕ) (r : Quick) : Type 0 where
  better : c < s.cost → r ≡ record { cost = c; at = j; again = s.again } → Weighed s c j r
  same : c ≡ s.cost → r ≡ record { cost = s.cost; at = s.at; again = c } → Weighed s c j r
  worse : s.cost < c → r ≡ s → Weighed s c j r

pub data Compared (s : Exact) (n : Rank) (j : ℕ) (r : Exact) : Type 0 where
  better : n.cost < s.rank.cost → r ≡ record { rank = n; at = j } → Compared s n j r
  shorter : n.cost ≡ s.rank.cost → n.bits < s.rank.bits → r ≡ record { rank = n; at = j } → Compared s n j r
  dearer : s.rank.cost < n.cost → r ≡ s → Compared s n j r
  longer : n.cost ≡ s.rank.cost → s.rank.bits ≤ n.bits → r ≡ s → Compared s n j r
