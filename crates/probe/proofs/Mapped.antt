-- What a job said, mapped to three numbers, is told as the job's own answer.
-- Assumes nothing.
use Rattle.std.proofs.Common.{◌≡◌, Result, Ok, Err, ℕ, MatchResult, ap, ◌∙◌}
use Rattle.std.specs.Prelude.{IsOkAnd}
use Rattle.answers.specs.declared.Refusal.{Refusal}
use Rattle.answers.specs.Said.{Said, said_refusal}
use Rattle.probe.specs.Told.{told, numbers_of}

pub mapped : {A : Type 0} (said : Result A Refusal → Said) (numbers : A → ℕ × ℕ × ℕ) {Gives : A → ℕ × ℕ × ℕ → Type 0} (r : Result A Refusal) (m : Result (ℕ × ℕ × ℕ) Refusal)
    → MatchResult r (λ x. IsOkAnd m (Gives x)) (λ e. m ≡ Err e) → ((x : A) (t : ℕ × ℕ × ℕ) → Gives x t → t ≡ numbers x)
    → ((x : A) → numbers_of (Ok (numbers x)) ≡ told (said (Ok x))) → ((e : Refusal) → said_refusal e ≡ said (Err e)) → numbers_of m ≡ told (said r)
mapped said numbers (Ok x) (Ok t) h gives ok err = ap (λ (v : ℕ × ℕ × ℕ). numbers_of (Ok v)) (gives x t h) ∙ ok x
mapped said numbers (Ok x) (Err e) h gives ok err = absurd h
mapped said numbers (Err e) m h gives ok err = ap numbers_of h ∙ ap told (err e)
