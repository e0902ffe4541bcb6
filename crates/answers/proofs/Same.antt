-- An answer is settled by what it says: it can be read back from its numbers.
-- Assumes nothing.
use mathlib.Core.Path.{◌≡◌, refl, sym, ap, ◌∙◌}
use Prim.Native.Nat.{ℕ}
use lib.Dec.{eqb}
use Rattle.block.specs.First.{pick}
use Rattle.std.specs.Prelude.{Result, Ok, Err}
use Rattle.answers.specs.declared.Kind as K
use Rattle.answers.specs.declared.Kind.TheVariants as kind
use Rattle.answers.specs.declared.Refusal as R
use Rattle.answers.specs.declared.Point as P
use Rattle.answers.specs.Said.{number_of, said_point, said_corners, said_kept, said_check}

-- a kind by its number
kind_of : ℕ → K.Kind
kind_of n =
    pick (eqb n 1) kind.Levels
    (pick (eqb n 2) kind.Steps
    (pick (eqb n 3) kind.Lengths
    (pick (eqb n 4) kind.Price
    (pick (eqb n 5) kind.Room
    (pick (eqb n 6) kind.Level
    (pick (eqb n 7) kind.Uncodable
    (pick (eqb n 8) kind.Corners (pick (eqb n 9) kind.Budget (pick (eqb n 10) kind.Keep kind.Packet)))))))))

kind_back : (k : K.Kind) → kind_of (number_of k) ≡ k
unfolding kind_of
kind_back kind.Levels = refl
kind_back kind.Steps = refl
kind_back kind.Lengths = refl
kind_back kind.Price = refl
kind_back kind.Room = refl
kind_back kind.Level = refl
kind_back kind.Uncodable = refl
kind_back kind.Corners = refl
kind_back kind.Budget = refl
kind_back kind.Keep = refl
kind_back kind.Packet = refl

-- a refusal and a point of their parts
refusal_of : K.Kind → ℕ → ℕ → R.Refusal
refusal_of k d e = record { kind = k; first = d; second = e }

point_of : ℕ → ℕ → ℕ → P.Point
point_of b e n = record { bits = record { 0 = b }; error = record { 0 = e }; kept = n }

refusal_same : (r s : R.Refusal) → number_of r.kind ≡ number_of s.kind → r.first ≡ s.first → r.second ≡ s.second → r ≡ s
unfolding refusal_of
refusal_same r s e f g =
    let k : r.kind ≡ s.kind = sym (kind_back r.kind) ∙ ap kind_of e ∙ kind_back s.kind in
    let m : refusal_of r.kind r.first r.second ≡ refusal_of s.kind s.first s.second = cc in
    m

parts_same : (p q : P.Point) → p.bits.0 ≡ q.bits.0 → p.error.0 ≡ q.error.0 → p.kept ≡ q.kept → p ≡ q
unfolding point_of
parts_same p q e f g =
    let m : point_of p.bits.0 p.error.0 p.kept ≡ point_of q.bits.0 q.error.0 q.kept = cc in m

pub point_same : (r s : Result P.Point R.Refusal) → said_point r ≡ said_point s → r ≡ s
point_same (Ok p) (Ok q) e = ap Ok (parts_same p q (cc) (cc) (cc))
point_same (Ok p) (Err q) e = cc
point_same (Err p) (Ok q) e = cc
point_same (Err p) (Err q) e = ap Err (refusal_same p q (cc) (cc) (cc))

pub corners_same : (r s : Result ℕ R.Refusal) → said_corners r ≡ said_corners s → r ≡ s
corners_same (Ok p) (Ok q) e = cc
corners_same (Ok p) (Err q) e = cc
corners_same (Err p) (Ok q) e = cc
corners_same (Err p) (Err q) e = ap Err (refusal_same p q (cc) (cc) (cc))

pub kept_same : (r s : Result ℕ R.Refusal) → said_kept r ≡ said_kept s → r ≡ s
kept_same (Ok p) (Ok q) e = cc
kept_same (Ok p) (Err q) e = cc
kept_same (Err p) (Ok q) e = cc
kept_same (Err p) (Err q) e = ap Err (refusal_same p q (cc) (cc) (cc))

-- two checks that refuse with the same number and details
pub refused_same : (r s : R.Refusal) → said_check {A = Unit {0}} (Err r) ≡ said_check {A = Unit {0}} (Err s) → r ≡ s
refused_same p q e = refusal_same p q (cc) (cc) (cc)
