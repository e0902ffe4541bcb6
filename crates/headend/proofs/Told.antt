-- What the head-end's call tells: the packet's refusal, the job's, or 0 with the keep numbers, for which the buffer has places.
-- Assumes nothing.
use Rattle.std.proofs.Common.{◌≡◌, Bool, true, false, Result, Ok, Err, ℕ, ℤ, ◌+◌, ◌*◌, ◌/◌, ◌≤◌, eqb, List, length, take, replicate, refl, sym, ap, arith}
use Rattle.std.proofs.lemmas.List.{length-replicate, take-replicate}
use borrow.Author.Tests.{eqb-true}
use Rattle.block.specs.First.{pick}
use Rattle.block.specs.Block.{Block}
use Rattle.answers.specs.declared.Kind.{Kind}
use Rattle.answers.specs.declared.Kind.TheVariants as kind
use Rattle.answers.specs.declared.Refusal.{Refusal}
use Rattle.answers.specs.declared.Point.{Point}
use Rattle.answers.specs.Said.{number_of, said_check, said_point}
use Rattle.still.proofs.Fine.{budget_verdict_fine}
use Rattle.packet.specs.Packet.{well_packed, packet_verdict, packed_blocks, packed_levels, packed_steps, packed_lengths}
use Rattle.packet.proofs.Packed.{accepted, levels_long}
use Rattle.budget_job.specs.BudgetJob.{Fitted, uncodable, passes, fits, BudgetMeets, refuses, answers}
use Rattle.headend.specs.HeadEnd.{bytes_of, number_said, places, PackedMeets, HeadEndMeets, refuses as refused, answers as answered}

-- no refusal has the number 0
numbered : (k : Kind) → eqb (number_of k) 0 ≡ false
numbered kind.Levels = refl
numbered kind.Steps = refl
numbered kind.Lengths = refl
numbered kind.Price = refl
numbered kind.Room = refl
numbered kind.Level = refl
numbered kind.Uncodable = refl
numbered kind.Corners = refl
numbered kind.Budget = refl
numbered kind.Keep = refl
numbered kind.Packet = refl

-- the job keeps the length of what it is lent
fitted_long : {B : ℕ → Block} {n budget : ℕ} {before after : List ℕ} {a : Result Point Refusal} → Fitted B n budget before a after → length after ≡ length before
fitted_long (uncodable i u s e) = ap length e
fitted_long (passes m l h s e) = ap length e
fitted_long (fits P f c l s) = l

-- a point is told of as many keep numbers as there are blocks
point_long : {levels : List ℤ} {steps lengths : List ℕ} {budget : ℕ} {before after : List ℕ} {p : Point} → BudgetMeets levels steps lengths budget before (Ok p) after
    → (length before ≡ length levels / 64) × (length after ≡ length before)
point_long (refuses n d e v s k) = absurd (let z : ◌≡◌ {A = ℕ} 0 1 = cc in omega arith)
point_long {levels} {steps} {lengths} {before = before} (answers v t) = ((budget_verdict_fine levels steps lengths (length before) v).1, fitted_long t)

-- a buffer with places for n has 8n bytes
places_right : (n bytes : ℕ) → places n bytes ≡ n → bytes ≡ 8 * n
unfolding places
places_right n bytes = go (eqb bytes (8 * n)) refl
  where
    go : (b : Bool) → eqb bytes (8 * n) ≡ b → pick b n (n + 1) ≡ n → bytes ≡ 8 * n
    go true e p = eqb-true bytes (8 * n) e
    go false e p = absurd (omega arith)

module _ {packet : List ℕ} {budget : ℕ} {buffer : List ℕ} where
  pub packet_refused : (r : Refusal) → said_check {A = Unit {0}} (Err r) ≡ packet_verdict packet → HeadEndMeets packet budget buffer (number_said (said_point (Err r))) buffer
  packet_refused r e = refused _ _ _ (sym e) refl refl

  module _ {numbers : List ℕ} where
    -- the job on what the packet holds, lent the first of the places that the most blocks need
    pub packed : {levels : List ℤ} {steps lengths : List ℕ} {n room most : ℕ} {a : Result Point Refusal} → levels ≡ packed_levels packet → steps ≡ packed_steps packet → lengths ≡ packed_lengths packet
        → n ≡ packed_blocks packet → room ≡ places n (length buffer) → room ≤ most
        → BudgetMeets levels steps lengths budget (take room (replicate most 0)) a numbers → PackedMeets packet budget buffer a numbers
    packed {room = room} {most = most} l s t b r h m = record { job = rw (take-replicate {X = ℕ} room most 0 h, r, b, l, s, t) at m }

    pub job_refused : {a : Result Point Refusal} {r : Refusal} → well_packed packet ≡ true → PackedMeets packet budget buffer a numbers → a ≡ Err r
        → HeadEndMeets packet budget buffer (number_said (said_point (Err r))) buffer
    job_refused {r = r} w m e = answered (accepted packet w) _ _ m (rw e) (rw (numbered r.kind))

    pub fitted : {a : Result Point Refusal} {p : Point} {after : List ℕ} → well_packed packet ≡ true → PackedMeets packet budget buffer a numbers → a ≡ Ok p → after ≡ bytes_of numbers
        → HeadEndMeets packet budget buffer (number_said (said_point (Ok p))) after
    fitted w m e s = answered (accepted packet w) _ _ m (rw e) s

    pub eight_each : {a : Result Point Refusal} {p : Point} → PackedMeets packet budget buffer a numbers → a ≡ Ok p → length buffer ≡ 8 * length numbers
    eight_each m e =
        let n = packed_blocks packet in
        let places_for = places n (length buffer) in
        let l : length {A = ℕ} (replicate places_for 0) ≡ places_for = length-replicate places_for 0 in
        let long = point_long (rw e at m.job) in
        let q : places_for ≡ n = omega (arith, levels_long packet) in
        omega (arith, places_right n (length buffer) q)
