-- The statements of specs/, from the calls' side and the packets' side.
use mathlib.Core.Path.{◌≡◌, refl, sym, ap, ◌∙◌}
use mathlib.Core.List.{List, [], ◌∷◌, append-nil}
use mathlib.Core.Bool.{true}
use Prim.Native.Nat.{ℕ, ◌≤◌, ◌<◌}
use native.Mathlib.Omega.{arith}
use lib.ListN.{length, take}
use Rattle.lists.proofs.Tests.{first_passed}
use Rattle.slip_framing.specs.Frame.{longest_frame, framed, wrote, framing, framed_all}
use Rattle.slip_framing.proofs.Refusals.{framing_written}
use Rattle.slip_framing.proofs.Escapes.{length-framed, escaped-most}
use Rattle.slip_packets.specs.Packets.{read, packets}
use Rattle.slip_packets.proofs.Theorems.{Leaves, leaves}
use Rattle.esp_begin.specs.Flash.{flash_length}
use Rattle.loader_claims.specs.Calls.{start}
use Rattle.loader_claims.specs.CallHistory.{core_at}
use Rattle.sender.specs.Load.{packet_count}
use Rattle.sender.specs.Packets.{packet_of}
use Rattle.sender.specs.Line.{packets_of, load_line}
use Rattle.sender.specs.Sending.{load_checks, load_refusal, sending}
use Rattle.sender.proofs.Sending.{told as nothing-refused, is-framing, frameable}
use Rattle.sender_claims.specs.Reads.{SenderWrites, SenderIsRead}
use Rattle.sender_claims.specs.Succeeds.{EveryPacketSucceeds}
use Rattle.sender_claims.specs.Stands.{ImageStands}
use Rattle.sender_claims.proofs.Over.{core_over, AllFrameable, frameable_take}
use Rattle.sender_claims.proofs.Frames.{packets-framed_all}
use Rattle.sender_claims.proofs.Feeding.{fed_over}
use Rattle.sender_claims.proofs.Requests.{packet-read}
use Rattle.sender_claims.proofs.Load.{load_frameable, load_read, fresh_core, load-tells, load_so_far, load-leaves}

flash_good : (size offset block flash : ℕ) → load_refusal size offset block flash ≡ 0 → flash_length flash ≡ true
unfolding load_refusal load_checks
flash_good size offset block flash good = (first_passed (load_checks size offset block flash) refl good).0

fresh-core : (buffer flash words : List ℕ) → core_at (start buffer flash words) ≡ fresh_core flash words
unfolding start
fresh-core buffer flash words = refl

pub every_packet_succeeds : EveryPacketSucceeds
unfolding load_line
every_packet_succeeds =
    record {
      all = λ image offset block buffer flash words told left bytes good accepted fed.
          let fits = load_frameable image offset block (length flash) good in
          let f = fed_over buffer flash words (packets_of image offset block) told left accepted (flash_good _ _ _ _ good) fits fed in
          f.0 ∙ rw (fresh-core buffer flash words) (load-tells image offset block flash words bytes good);
      so_far = λ image offset block buffer flash words told left n bytes good accepted fed.
          let fits = frameable_take n (packets_of image offset block) (load_frameable image offset block (length flash) good) in
          let f = fed_over buffer flash words (take n (packets_of image offset block)) told left accepted (flash_good _ _ _ _ good) fits fed in
          f.0 ∙ rw (fresh-core buffer flash words) (load_so_far image offset block flash words bytes good n);
    }

pub image_stands : ImageStands
unfolding load_line
image_stands image offset block buffer flash words told left bytes good accepted fed =
    let f = fed_over buffer flash words (packets_of image offset block) told left accepted (flash_good _ _ _ _ good) (load_frameable image offset block (length flash) good) fed in
    let l = load-leaves image offset block flash words bytes good in
    let e : core_at left ≡ core_over (fresh_core flash words) (packets_of image offset block) = f.1 ∙ rw (fresh-core buffer flash words) refl in
    record {
      stands = rw (← ap (λ c. c.flash) e) at l.image_stands;
      same_words = ap (λ c. c.words) e ∙ l.same_words;
      same_attach = ap (λ c. c.attach) e ∙ l.same_attach;
      no_session = ap (λ c. c.session) e ∙ l.no_session;
    }

-- the call is the framing routine's, and what that leaves is known
module _ (image : List ℕ) (offset block flash number : ℕ) (buffer : List ℕ) (n : ℕ) (h : (sending image offset block flash number buffer).report ≡ wrote n) where
  abbrev p : List ℕ
  p = packet_of image offset block number

  as_framing : sending image offset block flash number buffer ≡ framing p buffer
  as_framing =
      let t = nothing-refused image offset block flash number buffer n h in
      is-framing image offset block flash number buffer t.good t.before-end

  left_by : Leaves p buffer n
  left_by = leaves p buffer n (rw as_framing at h)

  written : take n (sending image offset block flash number buffer).buffer ≡ framed p
  written = rw as_framing left_by.front

  one-read : packets (take n (sending image offset block flash number buffer).buffer) ≡ read p ∷ []
  unfolding framed_all AllFrameable
  one-read =
      rw written
      (ap packets (sym (append-nil (framed p))) ∙ packets-framed_all (p ∷ []) (record { least = left_by.filled; most = left_by.fits }, tt) ∙ rw (packet-read image offset block number) refl)

fits-long : (image : List ℕ) (offset block flash number : ℕ) (buffer : List ℕ)
    → load_refusal (length image) offset block flash ≡ 0 → number < packet_count (length image) block → longest_frame ≤ length buffer
    → (sending image offset block flash number buffer).report ≡ wrote (length (framed (packet_of image offset block number)))
unfolding packet_count
fits-long image offset block flash number buffer good h long =
    let p = packet_of image offset block number in
    let f = frameable image offset block flash number buffer good h in
    rw (is-framing image offset block flash number buffer good h)
    (ap (λ x. x.report) (framing_written p buffer f.least f.most (omega (arith, length-framed p, escaped-most p, f.most))))

pub sender_writes : SenderWrites
sender_writes = record { front = written; every_number = fits-long }

pub sender_is-read : SenderIsRead
unfolding load_line
sender_is-read =
    record {
      each = one-read;
      all = λ image offset block flash good.
          packets-framed_all (packets_of image offset block) (load_frameable image offset block flash good) ∙ load_read image offset block flash good;
    }
