-- What the call of a packet comes to: refused by the load's refusals, refused for its number, or the packet framed.
use mathlib.Core.Path.{◌≡◌, refl, sym, ap, ◌∙◌}
use mathlib.Core.List.{List, [], ◌∷◌}
use mathlib.Core.Bool.{Bool, true, false, cond}
use Prim.Native.Nat.{ℕ, ◌+◌, ◌≤◌, ◌<◌}
use native.Mathlib.Omega.{arith}
use borrow.Author.Tests.{ne_eqb, eqb-true, eqb-false, lt-ltb, le-ltb, ltb-true, ltb-false, leb-true, leb-false}
use lib.Dec.{leb, ltb, eqb}
use lib.ListN.{length}
use Rattle.lists.specs.Checks.{Check, ◌or_else◌, first}
use Rattle.lists.proofs.Tests.{first-append}
use Rattle.slip_framing.specs.Frame.{framed, refused, wrote, frame_report, framing, Frames}
use Rattle.std.specs.Prelude.{Result}
use Rattle.slip_framing.specs.declared.FrameError.{FrameError}
use Rattle.slip_framing.proofs.Refusals.{framing-short, framing_written}
use Rattle.esp_begin.specs.Count.{count_of}
use Rattle.esp_begin.specs.Flash.{flash_length}
use Rattle.esp_requests.proofs.Lengths.{Frameable}
use Rattle.sender.specs.Load.{packet_count}
use Rattle.sender.specs.Packets.{packet_of}
use Rattle.sender.specs.Sending.{load_checks, load_refusal, refusal, packet_report, sending, Sends, no_total, total, counting, counting_file}
use Rattle.sender.specs.declared.PacketError.{PacketError}
use Rattle.sender.proofs.Sizes.{sized}
use Rattle.sender.proofs.Packets.{packet_frameable}

module _ (image : List ℕ) (offset block flash number : ℕ) (buffer : List ℕ) where
  abbrev p : List ℕ
  p = packet_of image offset block number

  -- the checks behind those of the load
  abbrev asked : List Check
  asked =
      ltb number (packet_count (length image) block) or_else 16
      ∷ leb (length (framed p)) (length buffer) or_else 8
      ∷ []

  pub refusal_is : (n : ℕ) → load_refusal (length image) offset block flash ≡ n → refusal image offset block flash number buffer ≡ cond (eqb n 0) (first asked) n
  unfolding refusal load_refusal load_checks
  refusal_is n e = first-append (load_checks (length image) offset block flash) asked refl ∙ ap (λ m. cond (eqb m 0) (first asked) m) e

  refusing : (n : ℕ) → refusal image offset block flash number buffer ≡ n → (n ≡ 0 → ⊥)
      → sending image offset block flash number buffer ≡ record { report = refused n; buffer = buffer }
  unfolding sending
  refusing n e h = rw (e, ne_eqb n 0 h) refl

  -- a refused call leaves the buffer
  pub refused_as : (n : ℕ) (r : Result ℕ PacketError) → packet_report r ≡ refused n
      → sending image offset block flash number buffer ≡ record { report = refused n; buffer = buffer }
      → Sends (sending image offset block flash number buffer) r buffer
  refused_as n r t e = rw e (record { answer = t; buffer = refl })

  pub load-refused : (n : ℕ) → load_refusal (length image) offset block flash ≡ n → (n ≡ 0 → ⊥)
      → sending image offset block flash number buffer ≡ record { report = refused n; buffer = buffer }
  load-refused n e h = refusing n (refusal_is n e ∙ rw (ne_eqb n 0 h) refl) h

  module _ (good : load_refusal (length image) offset block flash ≡ 0) where
    pub past-refusal : count_of (length image) block + 3 ≤ number → refusal image offset block flash number buffer ≡ 16
    unfolding packet_count first
    past-refusal h = refusal_is 0 good ∙ rw (le-ltb number (count_of (length image) block + 3) h) refl

    pub past_end : count_of (length image) block + 3 ≤ number → sending image offset block flash number buffer ≡ record { report = refused 16; buffer = buffer }
    past_end h = refusing 16 (past-refusal h) (λ e. omega arith)

    module _ (h : number < count_of (length image) block + 3) where
      -- the buffer is all that can still refuse it
      pub short-or-not : refusal image offset block flash number buffer ≡ cond (leb (length (framed p)) (length buffer)) 0 8
      unfolding packet_count first
      short-or-not = refusal_is 0 good ∙ rw (lt-ltb number (count_of (length image) block + 3) h) refl

      pub frameable : Frameable p
      frameable = packet_frameable image offset block number (sized _ _ _ _ good).most

      framing_as : (t : Bool) → leb (length (framed p)) (length buffer) ≡ t → sending image offset block flash number buffer ≡ framing p buffer
      unfolding sending
      framing_as true e =
          rw (short-or-not, e) (sym (framing_written p buffer frameable.least frameable.most (leb-true _ _ e)))
      framing_as false e =
          rw (short-or-not, e) (sym (framing-short p buffer frameable.least frameable.most (leb-false _ _ e)))

      pub is-framing : sending image offset block flash number buffer ≡ framing p buffer
      is-framing = framing_as (leb (length (framed p)) (length buffer)) refl

      -- the packet was framed, or its frame refused
      pub sent : (r : Result ℕ FrameError) (after : List ℕ) → Frames (framing p buffer) r after
          → (s : Result ℕ PacketError) → packet_report s ≡ frame_report r
          → Sends (sending image offset block flash number buffer) s after
      sent r after f s e = rw is-framing (record { answer = e ∙ f.answer; buffer = f.buffer })

  -- where a length is told, nothing refused the call
  pub record Told : Type 0 where
    pub good : load_refusal (length image) offset block flash ≡ 0
    pub before-end : number < count_of (length image) block + 3

  never_wrote : (x n : ℕ) → refused x ≡ wrote n → ⊥
  never_wrote x n e = let z : ◌≡◌ {A = ℕ} 0 1 = cc in omega arith

  pub told : (n : ℕ) → (sending image offset block flash number buffer).report ≡ wrote n → Told
  told n h = by_load (eqb (load_refusal (length image) offset block flash) 0) refl
    where
      by_number : load_refusal (length image) offset block flash ≡ 0 → (t : Bool) → ltb number (count_of (length image) block + 3) ≡ t → Told
      by_number good true e = record { good = good; before-end = ltb-true _ _ e }
      by_number good false e = absurd (never_wrote 16 n (rw (past_end good (ltb-false _ _ e)) at h))

      by_load : (t : Bool) → eqb (load_refusal (length image) offset block flash) 0 ≡ t → Told
      by_load true e = by_number (eqb-true (load_refusal (length image) offset block flash) 0 e) (ltb number (count_of (length image) block + 3)) refl
      by_load false e =
          let x = load_refusal (length image) offset block flash in
          absurd (never_wrote x n (rw (load-refused x refl (eqb-false x 0 e)) at h))

-- what the count of packets is told as
module _ (size offset block flash : ℕ) where
  pub count-refused : (n : ℕ) → load_refusal size offset block flash ≡ n → (n ≡ 0 → ⊥) → no_total n ≡ counting size offset block flash
  unfolding counting
  count-refused n e h = rw (e, ne_eqb n 0 h) refl

  pub count-told : load_refusal size offset block flash ≡ 0 → total (count_of size block + 3) ≡ counting size offset block flash
  unfolding counting packet_count
  count-told e = rw e refl

-- a file that leaves space in the buffer is counted as its bytes are; one that fills it is refused
module _ (space read offset block flash : ℕ) where
  pub file_read : read < space → counting read offset block flash ≡ counting_file space read offset block flash
  unfolding counting_file
  file_read h = rw (lt-ltb read space h) refl

  pub file_filled : (t : Bool) → flash_length flash ≡ t → space ≤ read → no_total (cond t 15 3) ≡ counting_file space read offset block flash
  unfolding counting_file first
  file_filled t e h = rw (le-ltb read space h, e) refl
