-- That a table of bits is made is a proposition, so that it may be a ghost field: an entry has one proof at most.
use Rattle.std.specs.Prelude.{ℕ, List}
use denote.Struct.Props as logic
use mathlib.Core.Path.{ap₂}
use native.Mathlib.Nat.{ℕ_set}
use mathlib.Core.HLevel.{¬_prop}
use Rattle.forward.specs.Bits.{BitsOf, Entry, Entry.some, Entry.none}

entry_prop : {E : Type 0} {n x : ℕ} → IsProp E → IsProp (Entry E n x)
entry_prop {E} {n} {x} h (some e p) (some f q) = ap₂ some (h e f) (ℕ_set x n p q)
entry_prop h (some e p) (none g q) = absurd (g e)
entry_prop h (none g p) (some f q) = absurd (g f)
entry_prop {E} {n} {x} h (none g p) (none k q) = ap₂ none (¬_prop g k) (ℕ_set x _ p q)

pub bits_of_prop : (len : ℕ → ℕ) (bits : List ℕ) → IsProp (BitsOf len bits)
bits_of_prop len bits = Prim.hlevel (logic.props, entry_prop)
