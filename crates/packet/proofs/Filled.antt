-- A list that is stored into from the front becomes the list that its first places agree with, once they are all.
-- Assumes nothing.
use mathlib.Core.Path.{◌≡◌, sym, ◌∙◌}
use mathlib.Core.List.{List}
use Prim.Native.Nat.{ℕ, ◌+◌, ◌≤◌, ◌<◌}
use native.Mathlib.Omega.{arith}
use lib.ListN.{length, get_or, set, length-set}
use lib.Seq.{get_or-set_same, get_or-set_other, ext_get_or}
use borrow.Author.Count.{below_none, below_more}

-- the first i of the n places of l are as in the whole
pub record Filled {A : Type 0} (d : A) (whole l : List A) (n i : ℕ) : Type 0 where
  pub long : length l ≡ n
  pub most : i ≤ n
  pub passed : (k : ℕ) → k < i → get_or l k d ≡ get_or whole k d

module _ {A : Type 0} {d : A} {whole l : List A} {n : ℕ} where
  pub begun : length l ≡ n → Filled d whole l n 0
  begun e = record { long = e; most = omega arith; passed = below_none _ }

  pub stored : {i : ℕ} {v : A} → i < n → Filled d whole l n i → v ≡ get_or whole i d → Filled d whole (set l i v) n (i + 1)
  stored {i} {v} h f e = record {
    long = length-set l i v ∙ f.long;
    most = omega arith;
    passed = below_more _ i (λ k m. get_or-set_other l i k v d (omega arith) ∙ f.passed k m) (get_or-set_same l i v d (omega arith) ∙ e);
  }

  pub done : {i : ℕ} → n ≤ i → Filled d whole l n i → length whole ≡ n → l ≡ whole
  done h f e = ext_get_or d l whole (f.long ∙ sym e) (λ k m. f.passed k (omega arith))
