-- The four numbers by which a probe tells what a job said.
use Rattle.std.specs.Prelude.{Result, Ok, Err, List, [], ◌∷◌, ℕ}
use Rattle.answers.specs.declared.Refusal.{Refusal}
use Rattle.answers.specs.Said.{Said, point, corners, kept, refused, said_refusal}

abbrev pub told : Said → List ℕ
told (point bits error n) = 0 ∷ bits ∷ error ∷ n ∷ []
told (corners n) = 0 ∷ n ∷ 0 ∷ 0 ∷ []
told (kept n) = 0 ∷ n ∷ 0 ∷ 0 ∷ []
told (refused number first second) = number ∷ first ∷ second ∷ 0 ∷ []

-- the same of three numbers that a job tells, or its refusal
abbrev pub numbers_of : Result (ℕ × ℕ × ℕ) Refusal → List ℕ
numbers_of (Ok t) = 0 ∷ t.0 ∷ t.1 ∷ t.2 ∷ []
numbers_of (Err r) = told (said_refusal r)
