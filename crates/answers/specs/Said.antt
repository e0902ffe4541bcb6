-- What an answer says: for each case of each answer the paper's number and values.
use Rattle.std.specs.Prelude.{Bool, true, false, Result, Ok, Err, ℕ}
use Rattle.answers.specs.declared.Kind as K
use Rattle.answers.specs.declared.Kind.TheVariants as kind
use Rattle.answers.specs.declared.Refusal as R
use Rattle.answers.specs.declared.Point as P

-- the number of each kind of refusal
abbrev pub number_of : K.Kind → ℕ
number_of kind.Levels = 1
number_of kind.Steps = 2
number_of kind.Lengths = 3
number_of kind.Price = 4
number_of kind.Room = 5
number_of kind.Level = 6
number_of kind.Uncodable = 7
number_of kind.Corners = 8
number_of kind.Budget = 9
number_of kind.Keep = 10
number_of kind.Packet = 11

-- a point, a number of corners, a number of kept coefficients, or the number of a refusal and its two details
pub data Said : Type 0 where
  point : (bits error kept : ℕ) → Said
  corners : ℕ → Said
  kept : ℕ → Said
  refused : (number first second : ℕ) → Said

abbrev pub said_refusal : R.Refusal → Said
said_refusal r = refused (number_of r.kind) r.first r.second

abbrev pub said_point : Result P.Point R.Refusal → Said
said_point (Ok p) = point p.bits.0 p.error.0 p.kept
said_point (Err r) = said_refusal r

abbrev pub said_corners : Result ℕ R.Refusal → Said
said_corners (Ok n) = corners n
said_corners (Err r) = said_refusal r

abbrev pub said_kept : Result ℕ R.Refusal → Said
said_kept (Ok n) = kept n
said_kept (Err r) = said_refusal r

-- what a check says: nothing to refuse, or the number of the refusal and its two details
pub data Verdict : Type 0 where
  fine : Verdict
  refuse : (number first second : ℕ) → Verdict

-- of a check that answers something else where it refuses nothing, too
abbrev pub said_check : {A : Type 0} → Result A R.Refusal → Verdict
said_check (Ok a) = fine
said_check (Err r) = refuse (number_of r.kind) r.first r.second

-- the first of two verdicts that refuses
infixl 5 ◌then◌
abbrev pub ◌then◌ : Verdict → Verdict → Verdict
fine then w = w
refuse n d e then w = refuse n d e

-- a verdict that holds only under a condition
abbrev pub when : Bool → Verdict → Verdict
when true w = w
when false w = fine
