-- What the head-end's call promises: it gets a packet, a budget and a buffer of 8n bytes (other lengths: 5), and returns 0 or the
-- number of the refusal; on 0 the buffer holds each block's keep number, most significant byte first, and on a refusal what it held.
use Rattle.std.specs.Prelude.{◌≡◌, Result, List, [], ◌∷◌, ℕ, ◌+◌, ◌*◌, ◌/◌, ◌%◌, ◌^◌, eqb, length, replicate}
use Rattle.block.specs.First.{pick}
use Rattle.answers.specs.declared.Point.{Point}
use Rattle.answers.specs.declared.Refusal.{Refusal}
use Rattle.answers.specs.Said.{Said, point, corners, kept, refused, fine, refuse, said_point}
use Rattle.packet.specs.Packet.{packed_blocks, packed_levels, packed_steps, packed_lengths, packet_verdict}
use Rattle.budget_job.specs.BudgetJob.{BudgetMeets}

-- byte k of a number, 0 being the least significant one
unfoldable pub byte_at : (k number : ℕ) → ℕ
byte_at k number = number / 2 ^ (8 * k) % 256

-- each number in eight bytes, most significant byte first
unfoldable pub bytes_of : List ℕ → List ℕ
bytes_of [] = []
bytes_of (x ∷ xs) = byte_at 7 x ∷ byte_at 6 x ∷ byte_at 5 x ∷ byte_at 4 x ∷ byte_at 3 x ∷ byte_at 2 x ∷ byte_at 1 x ∷ byte_at 0 x ∷ bytes_of xs

-- 0, or the number of the refusal
abbrev pub number_said : Said → ℕ
number_said (point bits error n) = 0
number_said (corners n) = 0
number_said (kept n) = 0
number_said (refused number first second) = number

-- a buffer of 8n bytes has places for n keep numbers; that of any other length is told as one place too many, which the job refuses by 5
unfoldable pub places : (n bytes : ℕ) → ℕ
places n bytes = pick (eqb bytes (8 * n)) n (n + 1)

-- the budget job on the packed still: its answer, and the keep numbers in the places that the buffer has
pub record PackedMeets (packet : List ℕ) (budget : ℕ) (buffer : List ℕ) (a : Result Point Refusal) (numbers : List ℕ) : Type 0 where
  pub job : BudgetMeets (packed_levels packet) (packed_steps packet) (packed_lengths packet) budget (replicate (places (packed_blocks packet) (length buffer)) 0) a numbers

-- the number r that is returned, and the buffer before and after the call
pub data HeadEndMeets (packet : List ℕ) (budget : ℕ) (before : List ℕ) (r : ℕ) (after : List ℕ) : Type 0 where
  refuses : (number first second : ℕ) → packet_verdict packet ≡ refuse number first second → r ≡ number → after ≡ before
      → HeadEndMeets packet budget before r after
  answers : packet_verdict packet ≡ fine → (a : Result Point Refusal) (numbers : List ℕ) → PackedMeets packet budget before a numbers
      → r ≡ number_said (said_point a) → after ≡ pick (eqb r 0) (bytes_of numbers) before
      → HeadEndMeets packet budget before r after
