use Prim.Native.Nat.{ℕ, ◌+◌, ◌*◌, ◌≤◌, ◌<◌}
use lib.ListN.{get_or}
use Rattle.forward.specs.declared.table.TheConstants.{NO}
use Rattle.search.proofs.table.Margins.with_size.Given as goal

abbrev pub invariant-loop-run : goal.invariant-loop-run
invariant-loop-run l = record {
  more : l.fn.self.saved ≤ l.saved;
  most : l.fn.self.saved ≤ NO → l.saved ≤ NO;
  longer : (r : ℕ) → l.run ≤ r → r < 63 → l.longer ≤ get_or l.bits (l.size * 64 + r) 0;
  saved : (r q : ℕ) → l.run ≤ r → r < q → q < 63 → get_or l.bits (l.size * 64 + r) 0 ≤ get_or l.bits (l.size * 64 + q) 0 + l.saved;
  greatest : (k : ℕ) → k ≤ NO → ((r : ℕ) → l.run ≤ r → r < 63 → k ≤ get_or l.bits (l.size * 64 + r) 0) → k ≤ l.longer;
  fewest : (k : ℕ) → l.fn.self.saved ≤ k → ((r q : ℕ) → l.run ≤ r → r < q → q < 63 → get_or l.bits (l.size * 64 + r) 0 ≤ get_or l.bits (l.size * 64 + q) 0 + k) → l.saved ≤ k;
}
