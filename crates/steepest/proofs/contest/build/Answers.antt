-- `build` meets its contract: the leaves are made from the first to the last, the nodes inside from the last to the root.
use Rattle.std.proofs.Common.{ℕ, ◌+◌, ◌-◌, ◌*◌, ◌<◌, length, arith}
use Rattle.steepest.proofs.Wins.{one_of}
use Rattle.steepest.proofs.Node.{leaf_made, inner_made, node_made}
use Rattle.steepest.proofs.contest.build.Goals as goal

pub loop-i-preserved : goal.loop-i-preserved
loop-i-preserved g c j from below =
    let k = length c.args.ways.now + c.loop-i.i in
    node_made c.loop-i.seats k c.loop-i.i
    (leaf_made c.loop-i.seats k c.loop-i.i (omega arith) (omega arith) (omega arith))
    (λ other. (omega arith, omega arith, c.loop-i.invariant j from (omega arith)))

pub loop-k-init : goal.loop-k-init
loop-k-init g c j from below = c.loop-i.invariant j from (omega arith)

pub loop-k-preserved : goal.loop-k-preserved
loop-k-preserved g c j from below =
    let k = c.loop-k.k - 1 in
    let n = length c.args.ways.now in
    let left = c.loop-k.invariant (2 * k) (omega arith) (omega arith) in
    let right = c.loop-k.invariant (2 * k + 1) (omega arith) (omega arith) in
    node_made c.loop-k.seats k c.winner.result
    (inner_made c.loop-k.seats k c.winner.result (omega arith) (omega arith) (omega arith) (one_of (λ (z : ℕ). z < n) left.within right.within c.winner.ensures.winner) c.winner.ensures.winner)
    (λ other. (omega arith, omega arith, c.loop-k.invariant j (omega arith) below))

pub returns-clause-tournament : goal.returns-clause-tournament
returns-clause-tournament g c = record { some = c.requires.some; room = omega arith; node = λ k some below. c.loop-k.invariant k (omega arith) below }
