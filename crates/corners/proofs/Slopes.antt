-- The arithmetic of prices: what is not linear, each lemma on plain numbers.
-- Assumes nothing.
use mathlib.Core.Path.{◌≡◌, ap}
use Prim.Native.Nat.{ℕ, zero, suc, ◌+◌, ◌*◌, ◌-◌, ◌≤◌, ◌<◌}
use native.Mathlib.Omega.{arith}
use native.Mathlib.Decide.{dec_le}
use native.Mathlib.Nat.{add-le-add, mul-le-mul_left, mul-le-mul_right, lt_of_mul-lt-mul_left, lt_of_mul-lt-mul_right}

-- A weighted comparison: the heavier weight decides.
heavier : (m n x y : ℕ) → m < n → n * x + m * y ≤ n * y + m * x → x ≤ y
heavier m n x y l h = go (dec_le x y)
  where
    go : Dec (x ≤ y) → x ≤ y
    go (yes p) = p
    go (no p) =
        let d : ℕ = x - y in
        let e : x ≡ y + d = omega arith in
        let g : 1 ≤ d = omega arith in
        let k : n * (y + d) + m * y ≤ n * y + m * (y + d) = rw e at h in
        let s : suc m * d ≤ n * d = mul-le-mul_right d l in
        omega arith

-- A positive factor goes from both sides.
unscaled : (k x y : ℕ) → 1 ≤ k → k * x ≤ k * y → x ≤ y
unscaled k x y l h = heavier 0 k x y l (omega arith)

-- At equal bits the cheaper has no more error.
pub same_bits : (a b e f x y : ℕ) → 1 ≤ a → x ≡ y → a * e + b * x ≤ a * f + b * y → e ≤ f
same_bits a b e f x y l q h = let k : a * e + b * y ≤ a * f + b * y = rw q at h in unscaled a e f l (omega arith)

-- What is less than a product leaves both factors positive.
pub right_pos : (k m n : ℕ) → k < m * n → 1 ≤ n
right_pos k m zero h = omega arith
right_pos k m (suc n) h = omega arith

pub left_pos : (k m n : ℕ) → k < m * n → 1 ≤ m
left_pos k m n h = right_pos k n m (omega arith)

-- No dearer at the steeper price and no cheaper at the flatter: no more bits.
pub flat_tie : (a b a' b' e f x y : ℕ) → a * b' < b * a' → a * e + b * x ≤ a * f + b * y → a' * f + b' * y ≤ a' * e + b' * x → x ≤ y
flat_tie a b a' b' e f x y l p q = heavier (a * b') (b * a') x y l (omega (arith, mul-le-mul_left a' p, mul-le-mul_left a q))

-- Between two pairs of one line, a pair that is not below the line is not cheaper than both.
spaced : (a b p q e f g x m n : ℕ) → 1 ≤ a → 1 ≤ m + n
    → a * e + b * x ≤ a * f + b * (x + m) → a * g + b * (x + m + n) ≤ a * f + b * (x + m)
    → p * f + q * (x + m) < p * e + q * x → p * f + q * (x + m) < p * g + q * (x + m + n) → ⊥
spaced a b p q e f g x m n l s r t u v =
    let w : n * e + m * g ≤ (m + n) * f = unscaled a _ _ l (omega (arith, mul-le-mul_left n r, mul-le-mul_left m t)) in
    omega (arith, mul-le-mul_left p w, mul-le-mul_left n u, mul-le-mul_left m v)

pub between : (a b p q e f g x y z : ℕ) → 1 ≤ a → x ≤ y → y ≤ z → x < z
    → a * e + b * x ≤ a * f + b * y → a * g + b * z ≤ a * f + b * y
    → p * f + q * y < p * e + q * x → p * f + q * y < p * g + q * z → ⊥
between a b p q e f g x y z l h k s =
    let m : x + (y - x) ≡ y = omega arith in
    let n : y + (z - y) ≡ z = omega arith in
    rw (m, n) at (spaced a b p q e f g x (y - x) (z - y) l (omega arith))

-- A cost at a price that a multiple of it shows as a sum of two others.
scaled : (k l m a b c d a' b' e x : ℕ) → k * a' ≡ l * a + m * c → k * b' ≡ l * b + m * d
    → k * (a' * e + b' * x) ≡ l * (a * e + b * x) + m * (c * e + d * x)
scaled k l m a b c d a' b' e x s t = omega (arith, ap (λ (i : ℕ). i * e) s, ap (λ (i : ℕ). i * x) t)

-- What is no dearer at both is no dearer at it.
combined : (k l m a b c d a' b' e f x y : ℕ) → 1 ≤ k → k * a' ≡ l * a + m * c → k * b' ≡ l * b + m * d
    → a * e + b * x ≤ a * f + b * y → c * e + d * x ≤ c * f + d * y → a' * e + b' * x ≤ a' * f + b' * y
combined k l m a b c d a' b' e f x y h s t p q =
    unscaled k _ _ h (rw (scaled k l m a b c d a' b' e x s t, scaled k l m a b c d a' b' f y s t)
    (add-le-add (mul-le-mul_left l p) (mul-le-mul_left m q)))

split_price : (k l m a b c d a' b' : ℕ) → k + a * d ≡ b * c → l + d * a' ≡ b' * c → m + a * b' ≡ b * a'
    → (k * a' ≡ l * a + m * c) × (k * b' ≡ l * b + m * d)
split_price k l m a b c d a' b' p q r = (
  omega (arith, ap (λ (i : ℕ). i * a') p, ap (λ (i : ℕ). i * a) q, ap (λ (i : ℕ). i * c) r),
  omega (arith, ap (λ (i : ℕ). i * b') p, ap (λ (i : ℕ). i * b) q, ap (λ (i : ℕ). i * d) r),
)

-- Steeper than one that is no flatter is steeper.
steeper : (a b c d a' b' : ℕ) → 1 ≤ c → a * b' < b * a' → d * a' ≤ b' * c → a * d < b * c
steeper a b c d a' b' h s t =
    lt_of_mul-lt-mul_right a' (omega (arith, mul-le-mul_right c s, mul-le-mul_left a t))

-- No dearer at a steep price and at a flat one: no dearer at each price between.
pub cone : (a b c d a' b' e f x y : ℕ) → 1 ≤ c → a * b' < b * a' → d * a' ≤ b' * c
    → a * e + b * x ≤ a * f + b * y → c * e + d * x ≤ c * f + d * y → a' * e + b' * x ≤ a' * f + b' * y
cone a b c d a' b' e f x y h s t =
    let u = steeper a b c d a' b' h s t in
    let v = split_price (b * c - a * d) (b' * c - d * a') (b * a' - a * b') a b c d a' b' (omega arith) (omega arith) (omega arith) in
    combined (b * c - a * d) (b' * c - d * a') (b * a' - a * b') a b c d a' b' e f x y (omega arith) v.0 v.1

-- The same at a parallel price.
pub parallel : (c d a' b' e f x y : ℕ) → 1 ≤ c → d * a' ≡ b' * c → c * e + d * x ≤ c * f + d * y → a' * e + b' * x ≤ a' * f + b' * y
parallel c d a' b' e f x y h s q =
    unscaled c _ _ h (omega (arith, mul-le-mul_left a' q, ap (λ (i : ℕ). i * x) s, ap (λ (i : ℕ). i * y) s))

-- A corner turns: with runs r and u and falls s and v before and behind it, and a price (p, q) at which it is strictly cheapest, what is parallel
-- to the edge before is steeper than the edge behind.
pub turn : (a b p q r s u v : ℕ) → 1 ≤ a → a * s ≡ b * r → q * r < p * s → p * v < q * u → a * v < b * u
turn a b p q r s u v h e k l =
    let m : a * q < p * b = lt_of_mul-lt-mul_right r (omega (arith, mul-le-mul_left a k, ap (λ (i : ℕ). p * i) e)) in
    lt_of_mul-lt-mul_left p (omega (arith, mul-le-mul_left a l, mul-le-mul_right u m))

-- No steeper than one that is no steeper is no steeper: runs c, falls d.
pub slope_trans : (c d c' d' c'' d'' : ℕ) → 1 ≤ c' → d * c' ≤ d' * c → d' * c'' ≤ d'' * c' → d * c'' ≤ d'' * c
slope_trans c d c' d' c'' d'' h p q = unscaled c' _ _ h (omega (arith, mul-le-mul_right c'' p, mul-le-mul_right c q))
