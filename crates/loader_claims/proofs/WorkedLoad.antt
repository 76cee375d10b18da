-- The worked load, by demand 3.
use mathlib.Core.Path.{◌≡◌, refl, sym, ap, ◌∙◌}
use mathlib.Core.List.{List, [], ◌∷◌, ◌++◌}
use mathlib.Core.Bool.{true}
use Prim.Native.Nat.{ℕ, ◌+◌, ◌-◌, ◌≤◌}
use native.Mathlib.Omega.{arith}
use borrow.Author.Tests.{le-leb, eq-eqb}
use lib.ListN.{length, take, replicate, length-append}
use lib.Seq.{take_at, take_all, take-add, get_or_at}
use Rattle.lists.proofs.Tests.{passed_first}
use Rattle.fields.specs.Words.{word}
use Rattle.slip_framing.specs.Frame.{longest, framed, escaped}
use Rattle.slip_packets.specs.Packets.{Packet, read, packets, stretches, ended, onto, nonempty}
use Rattle.esp_begin.specs.Begin.{sector, begin_of, round_up}
use Rattle.esp_commands.specs.Block.{payload}
use Rattle.loader_state.specs.Refusals.{buffer_checks, word_count}
use Rattle.esp_begin.specs.Flash.{flash_length}
use Rattle.loader_act.specs.Told.{Told, refused, taken, dropped, answered}
use Rattle.grammar.specs.Grammar.{begins, carries, packet, Fits}
use Rattle.grammar.specs.Loaded.{image, Loaded}
use Rattle.grammar.specs.Witness.{worked_begin, worked_block, worked_end, worked_line, worked_choice}
use Rattle.grammar.proofs.Witness.{worked_packets, worked_fits}
use Rattle.loader_claims.specs.Calls.{Machine, Call, start, stepped, next, passes, line_bytes, ClosingCall, closing_call, closing_calls, closing_at, Called, EachCall}
use Rattle.loader_claims.specs.Demand3.{Grammatical, Holds}
use Rattle.loader_claims.specs.Arrives.{bytes, after}
use Rattle.loader_claims.specs.WorkedLoad.{LongAnswers, LoadedByte, WorkedLoad}
use Rattle.loader_claims.proofs.Demand3.{demand3}
use Rattle.loader_claims.proofs.Arrives.{AllPass, SameLengths, same-all, all-front, bytes-front, closing-front}

called_same : (m : Machine) (c : Call) → Called m c → SameLengths m (next m c)
unfolding next
called_same m c d = record { buffer = d.packet_length; flash = d.flash_length; words = d.words_length }

-- where every call passes, the line is all their bytes
pub all-line : (m : Machine) (cs : List Call) → EachCall m cs → AllPass m cs → line_bytes m cs ≡ bytes cs
unfolding EachCall line_bytes bytes
all-line m [] e a = refl
all-line m (c ∷ cs) e a = rw a.0 (ap (λ bs. c.byte ∷ bs) (all-line (next m c) cs e.1 (same-all (called_same m c e.0) cs a.1)))

flash_length-after : (m : Machine) (cs : List Call) (c : Call) → EachCall m (cs ++ c ∷ [])
    → length (stepped (after m cs) c).flash ≡ length m.flash
unfolding EachCall after next
flash_length-after m [] c e = e.0.flash_length
flash_length-after m (d ∷ cs) c e = flash_length-after (next m d) cs c e.1 ∙ e.0.flash_length

pub long-pass : (buffer flash words : List ℕ) (cs : List Call) → longest ≤ length buffer → flash_length (length flash) ≡ true → word_count (length words) ≡ true
    → LongAnswers cs → AllPass (start buffer flash words) cs
unfolding LongAnswers passes start buffer_checks
long-pass buffer flash words [] b f w a = tt
long-pass buffer flash words (c ∷ cs) b f w a = (
  eq-eqb _ 0 (passed_first _ (le-leb _ _ b, (le-leb _ _ a.0, (f, (w, tt))))),
  long-pass buffer flash words cs b f w a.1,
)

-- the closing call at a place is the last call's, where the calls before it closed that many packets
closing-last : (xs : List ClosingCall) (n : ℕ) (t : Told) (flash : List ℕ) → length xs ≡ n → length (xs ++ closing_call t flash) ≡ n + 1
    → closing_at (xs ++ closing_call t flash) n ≡ record { told = t; flash = flash }
unfolding closing_at closing_call
closing-last xs n (refused k) flash e f = absurd (omega (arith, simp length-append at f))
closing-last xs n taken flash e f = absurd (omega (arith, simp length-append at f))
closing-last xs n (dropped k w) flash e f = get_or_at xs _ [] _ n e
closing-last xs n (answered k c s d sent note) flash e f = get_or_at xs _ [] _ n e

-- the line has 69 bytes, and without the last of them two packets
line-length : length worked_line ≡ 69
unfolding worked_begin worked_block worked_end worked_line framed escaped
line-length = refl

two_packets : length (packets (take 68 worked_line)) ≡ 2
unfolding worked_begin worked_block worked_end worked_line framed escaped packets stretches ended onto nonempty
two_packets = refl

abbrev ps : List Packet
ps = read worked_begin ∷ read worked_block ∷ read worked_end ∷ []

-- a load of the worked choice: flash of one sector
loaded_byte : (before f : List ℕ) → length f ≡ sector → Loaded (begins (packet ps 0)) (image ps (1 ∷ [])) before f → f ≡ 0xC0 ∷ replicate (sector - 1) 0xFF
unfolding worked_begin worked_block packet begins begin_of word round_up image carries payload
loaded_byte before f n l =
    sym (take_all sector f (omega arith)) ∙ take-add 1 (sector - 1) f ∙ rw (l.announced, l.erased)

module _ (buffer flash words : List ℕ) (cs : List Call) (c : Call) (b : longest ≤ length buffer) (f : length flash ≡ sector)
    (w : word_count (length words) ≡ true) (long : LongAnswers (cs ++ c ∷ [])) (line : bytes (cs ++ c ∷ []) ≡ worked_line) where
  abbrev m : Machine
  m = start buffer flash words

  abbrev told : Told
  told = (stepped (after m cs) c).told

  abbrev flash_after : List ℕ
  flash_after = (stepped (after m cs) c).flash

  whole : Holds buffer flash words (cs ++ c ∷ [])
  whole = demand3 buffer flash words (cs ++ c ∷ [])

  front : Holds buffer flash words cs
  front = demand3 buffer flash words cs

  all_pass : AllPass m (cs ++ c ∷ [])
  unfolding flash_length
  all_pass = long-pass buffer flash words (cs ++ c ∷ []) b (rw f) w long

  grammar : Grammatical (record { flash = length flash; words = length words }) ps (closing_calls m cs ++ closing_call told flash_after)
  grammar = rw (all-line m (cs ++ c ∷ []) whole.each_call all_pass ∙ line, worked_packets, closing-front m cs c) at whole.grammatical

  front_bytes : bytes cs ≡ take 68 worked_line
  front_bytes =
      let e : bytes cs ++ c.byte ∷ [] ≡ worked_line = sym (bytes-front cs c) ∙ line in
      let n : length (bytes cs) ≡ 68 = omega (arith, line-length, simp length-append at (ap length e)) in
      sym (take_at (bytes cs) (c.byte ∷ []) 68 n) ∙ ap (take 68) e

  two : length (closing_calls m cs) ≡ 2
  two =
      front.grammatical.one_for_one
      ∙ rw (all-line m cs front.each_call (all-front m cs c all_pass) ∙ front_bytes) two_packets

  at_last : closing_at (closing_calls m cs ++ closing_call told flash_after) 2 ≡ record { told = told; flash = flash_after }
  at_last = closing-last (closing_calls m cs) 2 told flash_after two grammar.one_for_one

  fitting : Fits (record { flash = length flash; words = length words }) ps worked_choice
  fitting = rw worked_packets at (worked_fits (record { flash = length flash; words = length words }) (omega arith))

  worked : LoadedByte m cs c
  unfolding start
  worked = record {
    ends = rw at_last at ((grammar.ends 2 (omega arith)).1 (worked_choice, fitting));
    flash = loaded_byte _ flash_after (flash_length-after m cs c whole.each_call ∙ f) (rw at_last at (grammar.loads 2 worked_choice (omega arith) fitting));
  }

pub worked_load : WorkedLoad
worked_load buffer flash words cs c b f w long line = worked buffer flash words cs c b f w long line
