-- What an entry of the table of bits costs: b for each bit, or FAR for a missing code.
use mathlib.Core.Path.{◌≡◌}
use mathlib.Core.Bool.{Bool, true, false}
use mathlib.Core.List.{List}
use Prim.Native.Nat.{ℕ, ◌*◌, ◌≤◌, ◌<◌}
use native.Mathlib.Nat.{mul-le-mul}
use native.Mathlib.Omega.{arith}
use borrow.Author.Tests.{eq-eqb, ne_eqb, eqb-true, eqb-false}
use lib.Dec.{eqb}
use lib.ListN.{get_or}
use Rattle.block.specs.First.{pick, first_below}
use Rattle.block.proofs.First.{first_fails}
use Rattle.price.specs.Accepted.{most_on_bits}
use Rattle.forward.specs.declared.table.TheConstants.{NO, FAR}
use Rattle.forward.specs.Bits.{misses, is_full, priced}

pub priced_some : (b n : ℕ) → (n ≡ NO → ⊥) → priced b n ≡ b * n
unfolding priced
priced_some b n h = simp (ne_eqb n NO h)

pub priced_none : (b n : ℕ) → n ≡ NO → priced b n ≡ FAR
unfolding priced
priced_none b n e = simp (eq-eqb n NO e)

pub priced_most : (b n : ℕ) → b ≤ most_on_bits → n ≤ NO → priced b n ≤ FAR
unfolding priced
priced_most b n h g = by (eqb n NO)
  where
    by : (t : Bool) → pick t FAR (b * n) ≤ FAR
    by true = omega arith
    by false = omega (arith, mul-le-mul h g)

-- a full table has every code, and is priced by products alone
pub full_there : (bits : List ℕ) (x : ℕ) → is_full bits ≡ true → x < 704 → get_or bits x 0 ≡ NO → ⊥
unfolding is_full misses
full_there bits x f h =
    let e : first_below (misses bits) 704 ≡ 704 = eqb-true (first_below (misses bits) 704) 704 f in
    eqb-false (get_or bits x 0) NO (first_fails (misses bits) 704 x (omega arith))

pub full_priced : (bits : List ℕ) (b x : ℕ) → is_full bits ≡ true → x < 704 → priced b (get_or bits x 0) ≡ b * get_or bits x 0
full_priced bits b x f h = priced_some b (get_or bits x 0) (full_there bits x f h)
