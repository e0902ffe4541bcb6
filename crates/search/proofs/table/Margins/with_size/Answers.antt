-- `search::table::Margins::with_size` meets its contract: each level meets the least bits of the longer runs, exactly.
-- Assumes nothing.
use Rattle.std.proofs.Common.{◌≡◌, ℕ, ◌+◌, ◌-◌, ◌*◌, ◌≤◌, ◌<◌, get_or, ap, arith}
use Rattle.search.proofs.Tabling.{from_last}
use Rattle.search.proofs.table.Margins.with_size.Goals as goal

pub loop-run-preserved : goal.loop-run-preserved
loop-run-preserved c =
    let v = c.loop-run.invariant in
    let bits = c.args.bits.now in
    let row = c.args.size * 64 in
    let run = c.loop-run.run - 1 in
    let n = get_or bits (row + run) 0 in
    let same : get_or bits (64 * c.args.size + run) 0 ≡ get_or bits (row + run) 0 = ap (λ (x : ℕ). get_or bits x 0) (omega arith) in
    record {
      more = omega (arith, v.more, c.max-saved.ensures);
      most = λ h. omega (arith, same, v.most h, c.max-saved.ensures, c.saturating_sub.ensures, c.requires.bits_most (row + run));
      longer =
          from_last (λ (r : ℕ). r < 63 → c.min-longer.result ≤ get_or bits (row + r) 0) c.loop-run-test.true
          (λ h. omega (arith, same, c.min-longer.ensures))
          (λ r p h. omega (arith, c.min-longer.ensures, v.longer r p h));
      saved =
          λ r q p. from_last (λ (r : ℕ). r < q → q < 63 → get_or bits (row + r) 0 ≤ get_or bits (row + q) 0 + c.max-saved.result) c.loop-run-test.true
          (λ h l. omega (arith, same, c.max-saved.ensures, c.saturating_sub.ensures, v.longer q (omega arith) l))
          (λ r p h l. omega (arith, c.max-saved.ensures, v.saved r q p h l))
          r p;
      greatest = λ k h g. omega (arith, same, c.min-longer.ensures, v.greatest k h (λ r p. g r (omega arith)), g run (omega arith) (omega arith));
      fewest =
          λ k h g.
          omega (arith, same, c.max-saved.ensures, c.saturating_sub.ensures, v.fewest k h (λ r q p. g r q (omega arith)), v.greatest (n - k) (omega (arith, c.requires.bits_most (row + run))) (λ q p l. omega (arith, g run q (omega arith) (omega arith) l)));
    }

pub returns : goal.returns
returns c =
    let v = c.loop-run.invariant in
    record {
      less = omega arith;
      more = v.more;
      most = v.most;
      least = λ r h. omega (arith, v.longer r (omega arith) h);
      saved = λ r q h l. v.saved r q (omega arith) h l;
      greatest = λ k h g. omega (arith, v.greatest k (omega (arith, g 0 (omega arith), c.requires.bits_most (c.args.size * 64 + 0))) (λ r p l. g r l));
      fewest = λ k h g. v.fewest k h (λ r q p. g r q);
    }
