-- What the list job says of what a packet holds is the packet's text, and corners that it tells have their places.
-- Assumes nothing.
use Rattle.std.proofs.Common.{◌≡◌, Result, Ok, Err, ℕ, ℤ, ◌*◌, ◌≤◌, List, length, replicate, true, refl, sym, arith, IfOk}
use Rattle.answers.specs.declared.Refusal.{Refusal}
use Rattle.answers.specs.Said.{said_check, said_corners}
use Rattle.list_job.specs.ListJob.{uncodable, short, lists, ListMeets, refuses, answers}
use Rattle.packet.specs.Packet.{well_packed, packet_verdict, packed_levels, packed_steps, packed_lengths}
use Rattle.packet.proofs.Packed.{accepted}
use Rattle.list_text.specs.ListText.{said_text, most_listed, Prints, tells, refuses as refused}

-- a packet's own refusal
pub refused_prints : {packet : List ℕ} (list : List ℕ) (r : Refusal) → said_check {A = Unit {0}} (Err r) ≡ packet_verdict packet → Prints packet (said_text (said_corners (Err r)) list)
refused_prints list r e = refused _ _ _ (sym e) refl

-- the answer for what the packet holds
pub told_prints : {packet : List ℕ} {levels : List ℤ} {steps lengths before after : List ℕ} {answer : Result ℕ Refusal}
    → well_packed packet ≡ true → levels ≡ packed_levels packet → steps ≡ packed_steps packet → lengths ≡ packed_lengths packet
    → before ≡ replicate (3 * most_listed) 0 → ListMeets levels steps lengths before answer after → Prints packet (said_text (said_corners answer) after)
told_prints {packet} {answer = answer} w l s t z m = tells (accepted packet w) answer _ (rw (l, s, t, z) at m) refl

-- a list job that tells n corners has had a list with room for them
pub places : {levels : List ℤ} {steps lengths before after : List ℕ} {r : Result ℕ Refusal}
    → ListMeets levels steps lengths before r after → length before ≡ 3 * most_listed → IfOk r (λ n. n ≤ most_listed)
places {r = Err e} m l = tt
places {r = Ok n} (refuses k d e v s p) l = absurd (let z : ◌≡◌ {A = ℕ} 0 1 = cc in omega arith)
places {r = Ok n} (answers v (uncodable i u s p)) l = absurd (let z : ◌≡◌ {A = ℕ} 0 1 = cc in omega arith)
places {r = Ok n} (answers v (short a L C h s p)) l = absurd (let z : ◌≡◌ {A = ℕ} 0 1 = cc in omega arith)
places {r = Ok n} (answers v (lists a L C h s t)) l = let e : length L ≡ n = cc in omega arith
