-- The way back: what holds at each of its nodes.
use mathlib.Core.Path.{◌≡◌, refl, ap}
use mathlib.Core.List.{List, [], ◌∷◌}
use Prim.Native.Nat.{ℕ, ◌+◌, ◌-◌, ◌*◌, ◌%◌, ◌^◌, ◌≤◌, ◌<◌}
use native.Mathlib.Omega.{arith}
use lib.Dec.{lit<}
use lib.Pow.{shl_exact}
use Rattle.block.specs.Choice.{keep_number}
use Rattle.forward.specs.declared.Chosen.{Chosen}
use Rattle.forward.specs.declared.level.Level.{Level}
use Rattle.forward.specs.declared.nodes.Nodes.{Nodes}
use Rattle.forward.specs.Given.{level_at}
use Rattle.forward.specs.Nodes.{node_at}
use Rattle.forward.specs.Scanning.{Trail, gain, Backed, Walked, Walks}

pub record Left (levels : List Level) (total : ℕ) (nodes : Nodes) (at : ℕ) (keep error k : ℕ) (r : List ℕ) : Type 0 where
  pub rest : List ℕ
  pub trail : Trail nodes k rest
  pub keep_is : keep + keep_number rest ≡ keep_number r
  pub error_is : error + gain levels nodes at r ≡ total + gain levels nodes k rest

pub record Walking (levels : List Level) (total : ℕ) (nodes : Nodes) (at : ℕ) (keep error k : ℕ) : Type 0 where
  pub low : k ≤ at
  pub left : (r : List ℕ) → Trail nodes at r → Left levels total nodes at keep error k r

pub shifted : (p : ℕ) → p < 64 → (1 * 2 ^ p) % 18446744073709551616 ≡ 2 ^ p
shifted p h = let e : (1 * 2 ^ p) % 2 ^ 64 ≡ 1 * 2 ^ p = shl_exact 1 p 64 (lit< {m = 1} {n = 2} tt) (omega arith) in omega (arith, e)

abbrev chosen : ℕ → ℕ → ℕ → Chosen
chosen bit error keep = record { bits = record { 0 = bit }; error = record { 0 = error }; keep = keep }

-- what a step back asks for
pub record Back (levels : List Level) (nodes : Nodes) (keep error k : ℕ) : Type 0 where
  pub error_most : (level_at levels k).drop ≤ error
  pub pred_less : (node_at nodes k).pred < k
  pub keep_most : keep + 2 ^ (node_at nodes k).place < 2 ^ 64

module _ {levels : List Level} {total : ℕ} {nodes : Nodes} {at : ℕ} where
  module _ {keep error k : ℕ} (W : Walking levels total nodes at keep error k) where
    pub walking_safe : Backed levels total nodes at → (k ≡ 0 → ⊥) → Back levels nodes keep error k
    walking_safe b h = go L.rest L.trail L.keep_is L.error_is
      where
        L : Left levels total nodes at keep error k b.way
        L = W.left b.way b.trail

        go : (q : List ℕ) → Trail nodes k q → keep + keep_number q ≡ keep_number b.way → error + gain levels nodes at b.way ≡ total + gain levels nodes k q → Back levels nodes keep error k
        go [] t e f = absurd (h t)
        go (p ∷ q) t e f = record { error_most = omega (arith, b.gain_most); pred_less = t.1; keep_most = omega (arith, b.keep_most, ap (λ (x : ℕ). 2 ^ x) t.2) }

    walking_step : (k ≡ 0 → ⊥) → Back levels nodes keep error k → Walking levels total nodes at (keep + 2 ^ (node_at nodes k).place) (error - (level_at levels k).drop) (node_at nodes k).pred
    walking_step h b = record { low = omega (arith, W.low, b.pred_less); left = λ r t. step r (W.left r t) }
      where
        step : (r : List ℕ) → Left levels total nodes at keep error k r → Left levels total nodes at (keep + 2 ^ (node_at nodes k).place) (error - (level_at levels k).drop) (node_at nodes k).pred r
        step r L = go L.rest L.trail L.keep_is L.error_is
          where
            go : (q : List ℕ) → Trail nodes k q → keep + keep_number q ≡ keep_number r → error + gain levels nodes at r ≡ total + gain levels nodes k q
                → Left levels total nodes at (keep + 2 ^ (node_at nodes k).place) (error - (level_at levels k).drop) (node_at nodes k).pred r
            go [] t e f = absurd (h t)
            go (p ∷ q) t e f =
                record {
                  rest = q;
                  trail = t.3;
                  keep_is = omega (arith, ap (λ (x : ℕ). 2 ^ x) t.2);
                  error_is = omega (arith, b.error_most);
                }

    pub walking_next : {x : ℕ} → x ≡ 2 ^ (node_at nodes k).place → (k ≡ 0 → ⊥) → Back levels nodes keep error k → Walking levels total nodes at (keep + x) (error - (level_at levels k).drop) (node_at nodes k).pred
    walking_next e h b = rw e (walking_step h b)

    pub walking_end : (bit : ℕ) → k ≡ 0 → Walks levels total nodes at bit (chosen bit error keep)
    walking_end bit z = record { walked = λ r t. end r (W.left r t) }
      where
        end : (r : List ℕ) → Left levels total nodes at keep error k r → Walked levels total nodes at bit (chosen bit error keep) r
        end r L = go L.rest L.trail L.keep_is L.error_is
          where
            go : (q : List ℕ) → Trail nodes k q → keep + keep_number q ≡ keep_number r → error + gain levels nodes at r ≡ total + gain levels nodes k q
                → Walked levels total nodes at bit (chosen bit error keep) r
            go [] t e f = record { bits_is = refl; error_is = omega arith; keep_is = omega arith }
            go (p ∷ q) t e f = absurd (omega (arith, t.0))
