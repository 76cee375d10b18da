-- The digest command (request Four): what a call that closes a read SPI_FLASH_MD5 comes to, whatever session is open.
use Rattle.std.specs.Prelude.{◌≡◌, List, [], ◌∷◌, ◌++◌, true, false, ℕ, ◌+◌, ◌≤◌, length, take, drop}
use Rattle.std.proofs.Math.Option.{some}
use Rattle.lists.specs.Lay.{lay}
use Rattle.fields.specs.Words.{word}
use Rattle.fields.specs.Places.{first_word, second_word, third_word, fourth_word}
use Rattle.slip_framing.specs.Frame.{framed}
use Rattle.digest.specs.Digest.{md5_of}
use Rattle.esp_begin.specs.Begin.{flash_rule}
use Rattle.esp_begin.specs.declared.Begin.{Begin}
use Rattle.esp_begin.specs.declared.Lengths.{Lengths}
use Rattle.slip_packets.specs.Packets.{read, header}
use Rattle.slip_unframing.specs.Line.{step_of, Closed, Step as ByteStep}
use Rattle.slip_runs.specs.Run.{run_of}
use Rattle.esp_commands.specs.Numbers.{spi_flash_md5_command}
use Rattle.esp_commands.specs.Header.{four_words, command, shaped}
use Rattle.loader_errors.specs.Numbers.{wrong_size, bad_parameter}
use Rattle.loader_notes.specs.Notes.{no_order}
use Rattle.loader_state.specs.Refusals.{refusal}
use Rattle.loader_run.specs.RunStep.{run_step}
use Rattle.loader_run.specs.Step.{Step, keeping, buffer_lengths}
use Rattle.loader_act.specs.Told.{answered}
use Rattle.loader.specs.Step.{step}
use Rattle.loader_state.specs.declared.Loader.{Loader}
use Rattle.grammar.specs.Loaded.{Loaded}
use Rattle.loader_claims.specs.ChangesNothing.{failing}

-- "address, size, 0, 0", and the bytes named lie in a flash of n bytes: address plus size as whole numbers, so size 0 is good, and the address at the very end
pub record GoodWords (p : List ℕ) (n : ℕ) : Type 0 where
  pub third : word p third_word ≡ 0
  pub fourth : word p fourth_word ≡ 0
  pub within : word p first_word + word p second_word ≤ n

-- the bytes of flash that it names: size of them, from the address on
abbrev pub named : List ℕ → List ℕ → List ℕ
named p flash = take (word p second_word) (drop (word p first_word) flash)

-- "the body is 16 raw bytes before the two status bytes, size field 18", and the value is 0
abbrev pub digest_answer : List ℕ → List ℕ
digest_answer d = 0x01 ∷ 0x13 ∷ 0x12 ∷ 0x00 ∷ 0x00 ∷ 0x00 ∷ 0x00 ∷ 0x00 ∷ (d ++ (0x00 ∷ 0x00 ∷ []))

-- the digest d is answered; the line and the packet buffer are as the line bytes leave them, which come to s; all else stays
abbrev pub digesting : ByteStep → (stored : ℕ) → (d : List ℕ) → Loader → (answer flash words : List ℕ) → Step
digesting s stored d r answer flash words =
    keeping (answered stored spi_flash_md5_command 0 0 (length (framed (digest_answer d))) no_order) s.line r s.buffer
    (lay answer 0 (framed (digest_answer d))) flash words

-- of a call whose line bytes come to s, that is let pass and comes to x, and closes a packet p that is read, with this command
pub record Digests (s : ByteStep) (x : Step) (r : Loader) (answer flash words : List ℕ) (stored : ℕ) (p : List ℕ) : Type 0 where
  -- a good one is answered with the digest of the bytes that it names
  pub answers :
      shaped four_words p ≡ true → GoodWords p (length flash)
      → x ≡ digesting s stored (md5_of (named p flash)) r answer flash words
  -- and every other fails: 0xC0 for its shape, then 0xC5 for its words
  pub wrong_shape : shaped four_words p ≡ false → x ≡ failing s stored spi_flash_md5_command wrong_size r answer flash words
  pub wrong_words :
      shaped four_words p ≡ true → (GoodWords p (length flash) → ⊥)
      → x ≡ failing s stored spi_flash_md5_command bad_parameter r answer flash words

abbrev pub DigestCall : ByteStep → Step → Loader → (packet answer flash words : List ℕ) → Type 0
DigestCall s x r packet answer flash words =
    (d : Closed) (p : List ℕ) → refusal r (buffer_lengths packet answer flash words) ≡ 0 → s.closed ≡ some d
    → header d.contents ≡ read p → command p ≡ spi_flash_md5_command
    → Digests s x r answer flash words d.stored p

-- From every record and all buffers: of every call with a byte
abbrev pub DigestAnswered : Type 0
DigestAnswered =
    (r : Loader) (b : ℕ) (packet answer flash words : List ℕ)
    → DigestCall (step_of r.line b packet) (step r b packet answer flash words) r packet answer flash words

-- and with a run
abbrev pub RunDigestAnswered : Type 0
RunDigestAnswered =
    (r : Loader) (run packet answer flash words : List ℕ)
    → DigestCall (run_of r.line run packet).step (run_step r run packet answer flash words).step r packet answer flash words

-- "A load is trusted only after its digest is compared.": where flash is as demand 3 says after a load of g with the blocks' data d, SPI_FLASH_MD5 with the offset and size of g keeps its rule, and its digest is that of the data, cut at the announced size.
abbrev pub LoadIsDigested : Type 0
LoadIsDigested =
    (l : Lengths) (g : Begin) (d before after p : List ℕ) → flash_rule l g ≡ true → l.flash ≡ length after → Loaded g d before after
    → word p first_word ≡ g.offset → word p second_word ≡ g.size → word p third_word ≡ 0 → word p fourth_word ≡ 0
    → GoodWords p (length after) × (md5_of (named p after) ≡ md5_of (take g.size d))
