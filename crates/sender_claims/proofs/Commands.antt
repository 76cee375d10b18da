-- Each command of a load, handled where it comes: SYNC, BEGIN, a block and END succeed.
use mathlib.Core.Path.{◌≡◌, refl, ◌∙◌}
use mathlib.Core.List.{List}
use mathlib.Core.Bool.{true}
use Prim.Native.Nat.{ℕ, ◌+◌, ◌-◌, ◌*◌, ◌/◌, ◌%◌, ◌^◌, ◌≤◌, ◌<◌}
use native.Mathlib.Omega.{arith}
use borrow.Author.Tests.{eq-eqb, le-leb}
use lib.ListN.{length, drop}
use Rattle.lists.specs.Bytes.{same_bytes, all_are}
use Rattle.fields.specs.Words.{word, half}
use Rattle.fields.specs.Checksum.{checksum}
use Rattle.fields.proofs.Theorems.{word_back}
use Rattle.slip_unframing.specs.Reasons.{whole}
use Rattle.slip_packets.specs.Packets.{header}
use Rattle.esp_commands.specs.Header.{command, sized, shaped, data_shaped}
use Rattle.esp_commands.specs.Block.{payload, zero_words, sum_good, padding, padding_good}
use Rattle.esp_parameters.specs.Parameters.{sync_rule, flash_end_rule}
use Rattle.esp_begin.specs.Begin.{begin_of, largest_block, flash_rule}
use Rattle.esp_begin.specs.declared.Begin.{Begin}
use Rattle.loader_sessions.specs.Session.{flash_open, announced, accepted, advanced}
use Rattle.loader_sessions.specs.declared.Session.TheVariants.{Closed, Flash}
use Rattle.loader_errors.specs.Errors.{kind, plain_checks, checks}
use Rattle.loader_errors.proofs.Checks.{DataPassed, data_passes, EndPassed, end-passes}
use Rattle.loader_blocks.specs.Flash.{flash_block}
use Rattle.loader_effects.specs.Core.{Core, lengths, with_session}
use Rattle.loader_effects.specs.Effects.{effect}
use Rattle.loader_effects.specs.Handle.{carried_out, handle}
use Rattle.loader_effects.proofs.Handled.{Passes, good_handled}
use Rattle.esp_requests.specs.Requests.{request, sync_packet, begin_packet, end_packet}
use Rattle.esp_data.specs.Data.{data_packet}
use Rattle.sender.specs.Load.{InWords}
use Rattle.sender_claims.proofs.Requests.{IsRead, sync-read, begin-read, block_read, end_read}
use Rattle.sender_claims.proofs.Succeeding.{succeeded}

-- a packet that is read and past every check is carried out
carried : (c : Core) (p : List ℕ) → IsRead p → Passes c p → handle c (header (whole p)) ≡ carried_out c p
carried c p r t = rw r (good_handled c p t)

sync-passes : (c : Core) → Passes c sync_packet
unfolding sync_packet request command kind checks plain_checks shaped sized half sync_rule same_bytes all_are
sync-passes c = (refl, (refl, tt))

pub sync_succeeds : (c : Core) → handle c (header (whole sync_packet)) ≡ succeeded sync_packet c
unfolding sync_packet request command kind carried_out effect
sync_succeeds c = carried c sync_packet sync-read (sync-passes c)

-- what a BEGIN announces is read back
pub begin-back : (g : Begin) → InWords g → begin_of (begin_packet g) ≡ g
unfolding begin_of begin_packet request word
begin-back g w =
    λ i. record {
      size = word_back g.size w.size i;
      count = word_back g.count w.count i;
      block = word_back g.block w.block i;
      offset = word_back g.offset w.offset i;
    }

begin-passes : (c : Core) (g : Begin) → InWords g → flash_rule (lengths c) g ≡ true → Passes c (begin_packet g)
unfolding kind checks plain_checks shaped sized half command
begin-passes c g w h = unfold begin_packet request in (refl, (rw (begin-back g w) h, tt))

pub begin_succeeds : (c : Core) (g : Begin) → InWords g → flash_rule (lengths c) g ≡ true
    → handle c (header (whole (begin_packet g))) ≡ succeeded (begin_packet g) (with_session c (Flash g 0))
unfolding begin_packet request command kind carried_out effect
begin_succeeds c g w h = carried c (begin_packet g) (begin-read g) (begin-passes c g w h) ∙ rw (begin-back g w)

-- block k of a BEGIN with these data
pub record BlockOf (g : Begin) (k : ℕ) (bytes : List ℕ) : Type 0 where
  pub full : length bytes ≡ g.block
  pub most : g.block ≤ largest_block
  pub more : k < g.count
  pub number : k < 2 ^ 32
  pub sum : checksum bytes < 2 ^ 32
  pub padded : all_are 0xFF (drop (g.size - k * g.block) bytes) ≡ true

-- the size field says the body's length
request-sized : (command sum : ℕ) (body : List ℕ) → length body < 0x10000 → sized (request command sum body) ≡ true
unfolding request sized half
request-sized command sum body h =
    eq-eqb (length body % 0x100 + length body / 0x100 % 0x100 * 0x100) (length (request command sum body) - 8) (omega arith)

module _ (g : Begin) (k : ℕ) (bytes : List ℕ) (b : BlockOf g k bytes) where
  abbrev packet : List ℕ
  packet = data_packet g.block k bytes

  packet_length : length packet ≡ length bytes + 24
  unfolding data_packet request
  packet_length = omega arith

  is-sized : sized packet ≡ true
  unfolding data_packet
  is-sized = request-sized _ _ _ (omega (arith, b.full, b.most))

  first_word_lem : word packet 8 ≡ g.block
  unfolding data_packet request word
  first_word_lem = word_back g.block (omega (arith, b.most))

  second_word_lem : word packet 12 ≡ k
  unfolding data_packet request word
  second_word_lem = word_back k b.number

  sum-word : word packet 4 ≡ checksum bytes
  unfolding data_packet request word
  sum-word = word_back (checksum bytes) b.sum

  data_read : payload packet ≡ bytes
  unfolding data_packet request payload
  data_read = refl

  zeros : zero_words packet ≡ true
  unfolding data_packet request zero_words word
  zeros = refl

  is_shaped : data_shaped packet ≡ true
  unfolding data_shaped
  is_shaped =
      rw (is-sized, le-leb 16 (length packet - 8) (omega (arith, packet_length)))
      (eq-eqb (word packet 8) (length packet - 8 - 16) (omega (arith, first_word_lem, packet_length, b.full)))

  passed : DataPassed true (Flash g k) packet
  unfolding announced accepted sum_good padding_good padding
  passed =
      record {
        is_shaped = is_shaped;
        is_open = refl;
        sized-block = eq-eqb _ _ first_word_lem;
        zeros = zeros;
        more = b.more;
        in_sequence = eq-eqb _ _ second_word_lem;
        sum = rw data_read (eq-eqb _ _ sum-word);
        padded = rw data_read b.padded;
      }

  block-passes : (c : Core) → c.session ≡ Flash g k → Passes c packet
  unfolding kind checks flash_open
  block-passes c e = rw e (unfold data_packet request command in (data_passes passed))

  pub block_succeeds : (c : Core) → c.session ≡ Flash g k
      → handle c (header (whole packet))
      ≡ succeeded packet (record { session = Flash g (k + 1); attach = c.attach; flash = flash_block g k bytes c.flash; words = c.words })
  unfolding data_packet request command kind carried_out effect announced accepted advanced
  block_succeeds c e = carried c packet (block_read g.block k bytes) (block-passes c e) ∙ rw (e, data_read)

end-passes-all : (c : Core) (g : Begin) → c.session ≡ Flash g g.count → Passes c end_packet
unfolding end_packet request command kind checks flash_open announced accepted shaped sized half flash_end_rule word
end-passes-all c g e =
    let d : EndPassed true true true (Flash g g.count) = record { is_shaped = refl; is_open = refl; is_ruled = refl; all = refl } in
    rw e (end-passes d)

pub end_succeeds_lem : (c : Core) (g : Begin) → c.session ≡ Flash g g.count
    → handle c (header (whole end_packet)) ≡ succeeded end_packet (with_session c Closed)
unfolding end_packet request command kind carried_out effect word
end_succeeds_lem c g e = carried c end_packet end_read (end-passes-all c g e)
