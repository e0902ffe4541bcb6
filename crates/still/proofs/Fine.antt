-- What the verdict on a job says when it refuses nothing: each of its checks does.
-- Assumes nothing.
use mathlib.Core.Path.{◌≡◌}
use mathlib.Core.List.{List}
use Prim.Native.Nat.{ℕ, ◌/◌, ◌%◌}
use lib.IntN.{ℤ}
use lib.ListN.{length}
use Rattle.price.specs.Accepted.{Accepted}
use Rattle.answers.specs.Said.{fine, ◌then◌}
use Rattle.answers.proofs.Verdicts.{then_fine}
use Rattle.still.specs.Refusals.{levels_check, keep_room_check, ac_check, still_check, price_verdict, list_verdict, budget_verdict, thin_verdict}
use Rattle.still.specs.Sound.{Still, Sound, KeepNumbers}
use Rattle.still.proofs.Checks.{levels_fine, steps_fine, lengths_fine, price_fine, keep_room_fine, list_room_fine, ac_fine, keep_fine}

module _ (levels : List ℤ) where
  -- 1 and 6
  still_fine : levels_check (length levels) ≡ fine → ac_check levels ≡ fine → Still levels (length levels / 64)
  still_fine e f = ac_fine levels (length levels / 64) (levels_fine (length levels) e) f

  module _ (steps lengths : List ℕ) where
    -- 1, 2, 3 and 6
    pub sound_fine : still_check levels steps lengths ≡ fine → ac_check levels ≡ fine → Sound levels steps lengths (length levels / 64)
    sound_fine e f =
        let p = then_fine _ _ e in
        let q = then_fine _ _ p.0 in
        record { still = still_fine q.0 f; step_limits = steps_fine steps q.1; length_limits = lengths_fine lengths p.1 }

    pub price_verdict_fine : (a b room : ℕ) → price_verdict levels steps lengths a b room ≡ fine
        → Sound levels steps lengths (length levels / 64) × Accepted a b × (room ≡ length levels / 64)
    unfolding price_verdict
    price_verdict_fine a b room e =
        let p = then_fine _ _ e in
        let q = then_fine _ _ p.0 in
        let r = then_fine _ _ q.0 in
        (sound_fine r.0 p.1, price_fine a b r.1, keep_room_fine _ room q.1)

    -- by `cc`, since which of its last two checks comes first does not matter here
    pub list_verdict_fine : (room : ℕ) → list_verdict levels steps lengths room ≡ fine
        → Sound levels steps lengths (length levels / 64) × (room % 3 ≡ 0)
    unfolding list_verdict
    list_verdict_fine room e =
        let p = then_fine _ _ e in
        let q = then_fine _ _ p.0 in
        (sound_fine q.0 (cc (p.1, q.1)), list_room_fine room (cc (p.1, q.1)))

    pub budget_verdict_fine : (room : ℕ) → budget_verdict levels steps lengths room ≡ fine
        → Sound levels steps lengths (length levels / 64) × (room ≡ length levels / 64)
    unfolding budget_verdict
    budget_verdict_fine room e =
        let p = then_fine _ _ e in
        let q = then_fine _ _ p.0 in
        (sound_fine q.0 p.1, keep_room_fine _ room q.1)

  module _ (keep : List ℕ) where
    -- the checks that come before the look at the keep numbers
    pub lent_fine : levels_check (length levels) then keep_room_check (length levels / 64) (length keep) then ac_check levels ≡ fine
        → Still levels (length levels / 64) × (length keep ≡ length levels / 64)
    lent_fine e =
        let p = then_fine _ _ e in
        let q = then_fine _ _ p.0 in
        (still_fine q.0 p.1, keep_room_fine _ (length keep) q.1)

    pub thin_verdict_fine : thin_verdict levels keep ≡ fine
        → Still levels (length levels / 64) × KeepNumbers levels keep (length levels / 64)
    unfolding thin_verdict
    thin_verdict_fine e =
        let p = then_fine _ _ e in
        let q = lent_fine p.0 in
        (q.0, keep_fine levels (length levels / 64) q.0 keep q.1 p.1)
