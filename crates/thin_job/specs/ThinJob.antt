-- What the thinning job promises.
use Rattle.std.specs.Prelude.{◌≡◌, Bool, true, Result, List, ℕ, ◌/◌, ◌%◌, ◌<◌, eqb, ℤ, pos, length, get_or}
use Rattle.block.specs.First.{pick}
use Rattle.answers.specs.declared.Refusal.{Refusal}
use Rattle.answers.specs.Said.{fine, refuse, said_kept, kept, refused}
use Rattle.still.specs.Refusals.{thin_verdict, bit_at}
use Rattle.kept.specs.Kept.{kept_of}

-- whether the level at position k of a block stays: DC, or its bit is set in the keep number
abbrev pub stays_at : (keep k : ℕ) → Bool
stays_at keep k = pick (eqb k 0) true (eqb (bit_at keep k) 1)

-- the level at index i of a still
abbrev pub stays : List ℕ → ℕ → Bool
stays keep i = stays_at (get_or keep (i / 64) 0) (i % 64)

-- levels of which those that do not stay have become 0
pub record ThinnedBy (stays : ℕ → Bool) (before after : List ℤ) : Type 0 where
  pub count : length after ≡ length before
  pub each : (i : ℕ) → i < length before → get_or after i (pos 0) ≡ pick (stays i) (get_or before i (pos 0)) (pos 0)

-- those of a still, by its keep numbers
abbrev pub Thinned : (before : List ℤ) → (keep : List ℕ) → (after : List ℤ) → Type 0
Thinned before keep after = ThinnedBy (stays keep) before after

-- the answer r and the levels after the call, of what was lent
pub data ThinMeets (before : List ℤ) (keep : List ℕ) (r : Result ℕ Refusal) (after : List ℤ) : Type 0 where
  refuses : (number first second : ℕ)
      → thin_verdict before keep ≡ refuse number first second
      → said_kept r ≡ refused number first second → after ≡ before
      → ThinMeets before keep r after
  thins : thin_verdict before keep ≡ fine
      → Thinned before keep after
      → said_kept r ≡ kept (kept_of keep)
      → ThinMeets before keep r after
