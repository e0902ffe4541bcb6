-- The bytes of a list of numbers are those of its numbers, one after another.
-- Assumes nothing.
use Rattle.std.proofs.Common.{◌≡◌, ℕ, ◌+◌, ◌/◌, ◌<◌, List, [], ◌∷◌, ◌++◌, length, get_or, take, refl, ap, arith}
use Rattle.std.proofs.lemmas.List.{take_more}
use Rattle.std.specs.Int.{w64, to_be_bytes}
use Rattle.headend.specs.HeadEnd.{byte_at, bytes_of}

bytes_of-append : (xs ys : List ℕ) → bytes_of (xs ++ ys) ≡ bytes_of xs ++ bytes_of ys
unfolding bytes_of
bytes_of-append [] ys = refl
bytes_of-append (x ∷ xs) ys = ap (λ (l : List ℕ). byte_at 7 x ∷ byte_at 6 x ∷ byte_at 5 x ∷ byte_at 4 x ∷ byte_at 3 x ∷ byte_at 2 x ∷ byte_at 1 x ∷ byte_at 0 x ∷ l) (bytes_of-append xs ys)

bytes_of_one : (x : ℕ) → bytes_of (x ∷ []) ≡ to_be_bytes w64 x
unfolding bytes_of byte_at
bytes_of_one x = let e : x / 1 ≡ x = omega arith in rw e

pub no_bytes : bytes_of [] ≡ []
unfolding bytes_of
no_bytes = refl

pub bytes_more : (xs : List ℕ) (i : ℕ) → i < length xs → bytes_of (take (i + 1) xs) ≡ bytes_of (take i xs) ++ to_be_bytes w64 (get_or xs i 0)
bytes_more xs i h = rw (take_more xs i 0 h, bytes_of-append, bytes_of_one)
