-- The least number at which a test holds.
use Rattle.std.specs.Prelude.{Bool, true, false, ℕ, zero, suc}

abbrev pub pick : {A : Type 0} → Bool → A → A → A
pick true x y = x
pick false x y = y

-- of the n numbers from i on the first at which f holds, or i + n
unfoldable pub first_from : (ℕ → Bool) → ℕ → ℕ → ℕ
first_from f i zero = i
first_from f i (suc n) = pick (f i) i (first_from f (suc i) n)

-- the least number below n at which f holds, or n
unfoldable pub first_below : (ℕ → Bool) → ℕ → ℕ
first_below f n = first_from f 0 n
