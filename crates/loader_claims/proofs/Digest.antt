-- The statements of specs/Digest.
use mathlib.Core.Path.{◌≡◌, refl, ap, ◌∙◌}
use mathlib.Core.List.{List, [], ◌∷◌, ◌++◌}
use mathlib.Core.Bool.{Bool, true, false}
use Prim.Native.Nat.{ℕ, ◌+◌, ◌≤◌}
use native.Mathlib.Omega.{arith}
use borrow.Author.Tests.{eqb-true, leb-true, le-leb, eq-eqb}
use lib.Dec.{eqb}
use lib.ListN.{length, length-append}
use Rattle.lists.specs.Checks.{first}
use Rattle.lists.proofs.Tests.{both}
use Rattle.fields.specs.Words.{word}
use Rattle.fields.specs.Places.{first_word, second_word, third_word, fourth_word}
use Rattle.lists.specs.Lay.{lay}
use Rattle.slip_framing.specs.Frame.{framed}
use Rattle.digest.specs.Digest.{md5_of}
use Rattle.digest.proofs.Length.{md5-length}
use Rattle.esp_begin.specs.Begin.{round_up}
use Rattle.esp_begin.proofs.Rules.{ruled as ruled-begin}
use Rattle.esp_begin.specs.declared.Lengths.{Lengths}
use Rattle.loader_answers.specs.Answer.{with_digest, answer_bytes}
use Rattle.slip_packets.specs.Packets.{read}
use Rattle.slip_unframing.specs.Line.{step_of, Step as ByteStep}
use Rattle.slip_runs.specs.Run.{run_of}
use Rattle.esp_commands.specs.Numbers.{spi_flash_md5_command}
use Rattle.esp_commands.specs.Header.{four_words, command, shaped}
use Rattle.esp_commands.specs.Block.{zero_words}
use Rattle.esp_parameters.specs.Parameters.{digest_rule}
use Rattle.loader_errors.specs.Numbers.{wrong_size, bad_parameter}
use Rattle.loader_errors.specs.Errors.{kind, plain_checks, checks, error_of}
use Rattle.loader_sessions.specs.declared.Session.{Session}
use Rattle.loader_effects.specs.Effects.{effect}
use Rattle.loader_notes.specs.Notes.{no_order}
use Rattle.loader_effects.specs.Handle.{replied, carried_out, handle}
use Rattle.loader_effects.specs.Core.{Core, lengths}
use Rattle.loader_run.specs.Step.{Step, keeping, told_of, answer_buffer, after_packet, after_byte}
use Rattle.loader_act.specs.Told.{answered}
use Rattle.loader_act.specs.Acts.{core_of}
use Rattle.loader_state.specs.declared.Loader.{Loader}
use Rattle.loader_claims.specs.ChangesNothing.{failing}
use Rattle.loader_claims.specs.Digest.{GoodWords, named, digest_answer, digesting, DigestCall, DigestAnswered, RunDigestAnswered, LoadIsDigested}
use Rattle.loader_claims.proofs.ChangesNothing.{closing, error, read-fails, judged, number, passed, byte_judged, run_judged}

module _ (l : Lengths) (p : List ℕ) where
  ruled : GoodWords p l.flash → digest_rule l p ≡ true
  unfolding digest_rule zero_words
  ruled n =
      let third : word p third_word ≡ 0 = n.third in
      let fourth : word p fourth_word ≡ 0 = n.fourth in
      let within : word p first_word + word p second_word ≤ l.flash = n.within in
      rw (eq-eqb _ 0 third, eq-eqb _ 0 fourth, le-leb _ _ within) refl

  by_rule : digest_rule l p ≡ true → GoodWords p l.flash
  unfolding digest_rule zero_words
  by_rule e =
      let b = both _ _ e in
      let z = both (eqb (word p third_word) 0) _ b.0 in
      record { third = eqb-true _ 0 z.0; fourth = eqb-true _ 0 z.1; within = leb-true _ _ b.1 }

  unruled : (GoodWords p l.flash → ⊥) → digest_rule l p ≡ false
  unruled bad = go (digest_rule l p) refl
    where
      go : (t : Bool) → digest_rule l p ≡ t → digest_rule l p ≡ false
      go true e = absurd (bad (by_rule e))
      go false e = e

  module _ (s : Session) (is : command p ≡ spi_flash_md5_command) where
    judged_by : error_of l s p ≡ first (plain_checks (shaped four_words p) (digest_rule l p))
    unfolding error_of kind checks
    judged_by = rw is refl

    good : shaped four_words p ≡ true → GoodWords p l.flash → error_of l s p ≡ 0
    unfolding plain_checks first
    good a n = judged_by ∙ rw (a, ruled n) refl

    unshaped : shaped four_words p ≡ false → error_of l s p ≡ wrong_size
    unfolding plain_checks first
    unshaped a = judged_by ∙ rw a refl

    unruled_words : shaped four_words p ≡ true → (GoodWords p l.flash → ⊥) → error_of l s p ≡ bad_parameter
    unfolding plain_checks first
    unruled_words a n = judged_by ∙ rw (a, unruled n) refl

-- the answer with a digest, byte by byte
answer-is : (d : List ℕ) → length d ≡ 16 → answer_bytes spi_flash_md5_command 0 0 (with_digest d) ≡ digest_answer d
answer-is d e =
    let n : length (d ++ (0 ∷ 0 ∷ [])) ≡ 18 = rw (length-append d (0 ∷ 0 ∷ []), e) refl in
    rw n refl

module _ (s : ByteStep) (r : Loader) (packet answer flash words : List ℕ) where
  abbrev core : Core
  core = core_of r flash words

  -- a good one leaves all as it is and is answered with the digest
  handled :
      (p : List ℕ) → command p ≡ spi_flash_md5_command → error_of (lengths core) r.session p ≡ 0
      → handle core (read p)
      ≡ record {
        reply = replied spi_flash_md5_command 0 0 (with_digest (md5_of (named p flash))) no_order;
        core = core;
      }
  unfolding handle carried_out kind effect
  handled p is good = let q : eqb (error_of (lengths core) r.session p) 0 ≡ true = eq-eqb _ 0 good in rw (q, is) refl

  read-digests :
      (stored : ℕ) (p : List ℕ) → command p ≡ spi_flash_md5_command → error_of (lengths core) r.session p ≡ 0
      → closing s r answer flash words stored (read p)
      ≡ digesting s stored (md5_of (named p flash)) r answer flash words
  unfolding after_packet told_of answer_buffer
  read-digests stored p is good =
      let d = md5_of (named p flash) in
      ap (λ h. after_packet s.line stored h s.buffer answer) (handled p is good)
      ∙ ap (λ (b : List ℕ). keeping (answered stored spi_flash_md5_command 0 0 (length (framed b)) no_order) s.line r s.buffer (lay answer 0 (framed b)) flash words)
      (answer-is d (md5-length (named p flash)))

  digest_so : (x : Step) → x ≡ judged s r packet answer flash words (eqb (number s r packet answer flash words) 0)
      → DigestCall s x r packet answer flash words
  unfolding after_byte
  digest_so x so d p e f g is =
      let l = lengths (core_of r flash words) in
      let to : x ≡ closing s r answer flash words d.stored (read p) = passed s r packet answer flash words x so e ∙ rw (f, g) refl in
      record {
        answers = λ a n. to ∙ read-digests d.stored p is (good l p r.session is a n);
        wrong_shape = λ a. to ∙ fails d.stored p is wrong_size (unshaped l p r.session is a) (λ h. let z : ◌≡◌ {A = ℕ} 0 1 = cc in omega arith);
        wrong_words = λ a n. to ∙ fails d.stored p is bad_parameter (unruled_words l p r.session is a n) (λ h. let z : ◌≡◌ {A = ℕ} 0 1 = cc in omega arith);
      }
    where
      fails :
          (stored : ℕ) (p : List ℕ) → command p ≡ spi_flash_md5_command → (n : ℕ) → error s r answer flash words p ≡ n → (n ≡ 0 → ⊥)
          → closing s r answer flash words stored (read p) ≡ failing s stored spi_flash_md5_command n r answer flash words
      fails stored p is n h bad = rw (h, is) at (read-fails s r answer flash words stored p (rw h bad))

pub digest_answered : DigestAnswered
digest_answered r b packet answer flash words =
    digest_so (step_of r.line b packet) r packet answer flash words _ (byte_judged r b packet answer flash words)

pub run-digest_answered : RunDigestAnswered
run-digest_answered r run packet answer flash words =
    digest_so (run_of r.line run packet).step r packet answer flash words _ (run_judged r run packet answer flash words)

pub load-is_digested : LoadIsDigested
unfolding round_up
load-is_digested l g d before after p rule same loaded a s third fourth =
    let b = (ruled-begin l g rule).within in
    (record { third = third; fourth = fourth; within = omega (arith, b, a, s, same) }, rw (a, s, loaded.announced) refl)
