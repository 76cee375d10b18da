-- "Fed in order to a fresh loader with that flash and other rooms that it accepts, every one of its packets must succeed".
use Rattle.std.specs.Prelude.{◌≡◌, List, [], ◌∷◌, map, cond, ℕ, nat_eq, length, take}
use Rattle.lists.specs.Bytes.{IsBytes}
use Rattle.slip_framing.specs.Frame.{framed, framed_all}
use Rattle.esp_commands.specs.Numbers.{flash_end_command}
use Rattle.esp_commands.specs.Header.{command}
use Rattle.loader_answers.specs.Answer.{answer_with}
use Rattle.loader_notes.specs.Notes.{Order, no_order, end_word}
use Rattle.loader_act.specs.Told.{Told, answered}
use Rattle.loader_claims.specs.Calls.{Machine}
use Rattle.sender.specs.Sending.{load_refusal}
use Rattle.sender.specs.Line.{packets_of, load_line}
use Rattle.sender_claims.specs.Fed.{Accepted, LineFed}

-- what a good command asks of the caller: END stays, the others ask nothing
abbrev pub asks : List ℕ → Order
asks p = cond (nat_eq (command p) flash_end_command) (end_word 1) no_order

-- the packet p is answered with success: all its bytes stored, its own command, status 0 and error 0, and as many bytes sent as the plain answer with value 0 has. That these bytes stand in the answer buffer is said of every call, by the field `sends` of demand 3.
abbrev pub success : List ℕ → Told
success p = answered (length p) (command p) 0 0 (length (framed (answer_with (command p) 0 (0 ∷ 0 ∷ [])))) (asks p)

-- For every image, offset, block size and flash that the sender does not refuse, whatever flash holds, and every way of feeding the load: the calls that close a packet are its packets, one for one and in order, each answered with success.
pub record EveryPacketSucceeds : Type 0 where
  pub all :
      (image : List ℕ) (offset block : ℕ) (buffer flash words : List ℕ) (told : List Told) (left : Machine)
      → IsBytes image → load_refusal (length image) offset block (length flash) ≡ 0 → Accepted buffer words
      → LineFed buffer flash words (load_line image offset block) told left
      → told ≡ map success (packets_of image offset block)
  -- in time: with the first n packets fed, and no more, those n are closed and answered
  pub so_far :
      (image : List ℕ) (offset block : ℕ) (buffer flash words : List ℕ) (told : List Told) (left : Machine) (n : ℕ)
      → IsBytes image → load_refusal (length image) offset block (length flash) ≡ 0 → Accepted buffer words
      → LineFed buffer flash words (framed_all (take n (packets_of image offset block))) told left
      → told ≡ map success (take n (packets_of image offset block))
