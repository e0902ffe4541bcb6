-- What the list program prints for a packet, and how it stands in the bytes that are lent for it.
use Rattle.std.specs.Prelude.{◌≡◌, Result, List, [], ℕ, ◌*◌, replicate}
use Rattle.answers.specs.declared.Refusal.{Refusal}
use Rattle.answers.specs.Said.{Said, point, corners, kept, refused, fine, refuse, said_corners}
use Rattle.list_job.specs.ListJob.{ListMeets}
use Rattle.packet.specs.Packet.{packet_verdict, packed_levels, packed_steps, packed_lengths}
use Rattle.text.specs.Text.{corners_text, refused_text, Holds}

-- the most corners that the program lists
abbrev pub most_listed : ℕ
most_listed = 1024

-- the text of what a list job says, with its list; it never says a point or a number of kept coefficients
abbrev pub said_text : Said → List ℕ → List ℕ
said_text (corners n) list = corners_text n list
said_text (refused number first second) list = refused_text number first second
said_text (point bits error n) list = []
said_text (kept n) list = []

-- the text for a packet: its own refusal, or what the list job says of what it holds, with room for the most corners
pub data Prints (packet text : List ℕ) : Type 0 where
  refuses : (number first second : ℕ) → packet_verdict packet ≡ refuse number first second → text ≡ refused_text number first second → Prints packet text
  tells : packet_verdict packet ≡ fine → (answer : Result ℕ Refusal) (list : List ℕ)
      → ListMeets (packed_levels packet) (packed_steps packet) (packed_lengths packet) (replicate (3 * most_listed) 0) answer list
      → text ≡ said_text (said_corners answer) list → Prints packet text

-- the first r of the lent bytes are the packet's text, and those behind them are as they were before
pub record ListTextMeets (packet before after : List ℕ) (r : ℕ) : Type 0 where
  pub text : List ℕ
  pub prints : Prints packet text
  pub holds : Holds before text after r
