-- A way at the top is at least as steep as each, by run and fall.
use Rattle.std.proofs.Common.{◌≡◌, ℕ, ◌*◌, ◌<◌, ◌≤◌, List, length, get_or, Some}
use Rattle.std.proofs.lemmas.Option.{slice_get-get_or, slice_get_within}
use Rattle.std.specs.List.{slice_get}
use Rattle.steepest.specs.Tournament.{IsTop}
use Rattle.steepest.specs.Ways.{WayAsSteep}
use Rattle.steepest.specs.declared.way.Way.{Way}

module _ (ways : List Way) (k : ℕ) (top : IsTop WayAsSteep ways k) where
  -- t is at the top, a anywhere
  pub steepest : (i : ℕ) (t a : Way) → slice_get ways k ≡ Some t → slice_get ways i ≡ Some a → a.fall * t.run ≤ t.fall * a.run
  steepest i t a is_t is_a = top.wins_all i (slice_get_within ways i a is_a) t a is_t is_a

  -- the same as reads with any default
  pub steepest_read : (i : ℕ) (d : Way) → i < length ways → (get_or ways i d).fall * (get_or ways k d).run ≤ (get_or ways k d).fall * (get_or ways i d).run
  steepest_read i d inside = steepest i (get_or ways k d) (get_or ways i d) (slice_get-get_or ways k d top.within) (slice_get-get_or ways i d inside)
