-- When one way to a next corner is at least as steep as another: no less fall of error for its run of bits. It is an order, since no run is 0.
use Rattle.std.specs.Prelude.{ℕ, ◌*◌, ◌≤◌}
use Rattle.std.proofs.Common.{arith}
use Rattle.std.proofs.Math.Nat.{mul-le-mul_right, le_of_mul-le-mul_right}

-- a way of this run and fall is at least as steep as the other
abbrev pub AsSteep : ℕ → ℕ → ℕ → ℕ → Type 0
AsSteep run fall other_run other_fall = other_fall * run ≤ fall * other_run

pub AsSteep-reflexive : (run fall : ℕ) → AsSteep run fall run fall
AsSteep-reflexive run fall = omega arith

-- falls f, g, h over runs r, s, t
pub AsSteep-transitive : (r f s g t h : ℕ) → 1 ≤ s → AsSteep r f s g → AsSteep s g t h → AsSteep r f t h
AsSteep-transitive r f s g t h some first second =
    let first_wide : g * r * t ≤ f * s * t = mul-le-mul_right t first in
    let second_wide : h * s * r ≤ g * t * r = mul-le-mul_right r second in
    let wide : h * r * s ≤ f * t * s = omega (arith, first_wide, second_wide) in
    le_of_mul-le-mul_right wide some
