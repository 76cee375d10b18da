-- Refusals 1 to 5 of a call, in their order.
use Rattle.std.specs.Prelude.{List, [], ◌∷◌, ◌++◌, Bool, ◌&&◌, ℕ, nat_le}
use Rattle.lists.specs.Checks.{Check, ◌or_else◌, first}
use Rattle.esp_attach.specs.Pins.{attach_good}
use Rattle.slip_framing.specs.Frame.{longest}
use Rattle.esp_begin.specs.Flash.{flash_length}
use Rattle.esp_begin.specs.declared.Lengths.{Lengths}
use Rattle.loader_sessions.specs.Session.{session_good}
use Rattle.loader_answers.specs.Reply.{longest_answer}
use Rattle.loader_state.specs.declared.BufferLengths.{BufferLengths}
use Rattle.loader_state.specs.declared.Loader.{Loader}
use Rattle.loader_state.specs.declared.Refusal.{Refusal}
use Rattle.loader_state.specs.declared.Refusal.TheVariants.{PacketBuffer, AnswerBuffer, Flash, Words, Record}

-- refusals by their numbers
abbrev pub refusal_number : Refusal → ℕ
refusal_number PacketBuffer = 1
refusal_number AnswerBuffer = 2
refusal_number Flash = 3
refusal_number Words = 4
refusal_number Record = 5

-- those that the BEGIN rules speak of
abbrev pub lengths_of : BufferLengths → Lengths
lengths_of r = record { flash = r.flash; words = r.words }

-- "0 words, or more than 16,384"
unfoldable pub word_count : ℕ → Bool
word_count n = nat_le 1 n && nat_le n 16384

-- refusals 1 to 4: the buffers lent
unfoldable pub buffer_checks : BufferLengths → List Check
buffer_checks r =
    nat_le longest r.packet or_else 1
    ∷ nat_le longest_answer r.answer or_else 2
    ∷ flash_length r.flash or_else 3
    ∷ word_count r.words or_else 4
    ∷ []

-- "more than 4,120 bytes held, a session whose numbers fail the BEGIN rules for these lengths, more blocks accepted than announced, or an attach word that would be refused"
unfoldable pub record_good : Lengths → Loader → Bool
record_good l r = nat_le r.line.held longest && (session_good l r.session && attach_good r.attach)

-- the number that a call is refused with, 0 where it is not
unfoldable pub refusal : Loader → BufferLengths → ℕ
refusal r buffers = first (buffer_checks buffers ++ (record_good (lengths_of buffers) r or_else 5 ∷ []))
