-- What a poll, a call that sends and bytes in Baud make of the link.
use mathlib.Core.Path.{◌≡◌, refl, sym, ◌∙◌}
use mathlib.Core.List.{List, [], ◌∷◌}
use mathlib.Core.Bool.{Bool, true, false, cond}
use Prim.Native.Nat.{ℕ, ◌^◌, ◌≤◌, ◌<◌}
use native.Mathlib.Omega.{arith}
use borrow.Author.Tests.{le-leb, lt-leb, eqb-true}
use lib.ListN.{length}
use lib.Dec.{eqb}
use lib.Seq.{take_at}
use Rattle.lists.specs.Lay.{lay}
use Rattle.lists.specs.Bytes.{all_are}
use Rattle.lists.specs.Checks.{first}
use Rattle.lists.proofs.Tests.{both}
use Rattle.fields.specs.Checksum.{xored}
use Rattle.fields.specs.Words as words
use Rattle.link_frames.specs.Editions.{is_edition}
use Rattle.link_frames.specs.Frames.{known, size, data_frame}
use Rattle.link_frames.specs.Reading.{begins, lacks_sum, good_start, all_but_sum, reading}
use Rattle.link_state.specs.Clock.{elapsed, silence, still_dead}
use Rattle.link_state.specs.Link.{fresh, in_baud, in_open, renewed, kept, with_dead}
use Rattle.link_state.specs.Silence.{lost, checked}
use Rattle.link_state.specs.Rates.{on_list}
use Rattle.link_refusals.specs.Sound.{fits_phase, fits_edition, holder_good, sound}
use Rattle.link_refusals.specs.Refusals.{shortest_buffer, checks, send_checks}
use Rattle.link_refusals.proofs.Sound.{checks_passed}
use Rattle.link_events.specs.Turns.{listens}
use Rattle.link_effects.specs.Whole.{baud_frame}
use Rattle.link.specs.Answers.{done, sent_by}
use Rattle.link.specs.Hearing.{whole_frame, heard, received}
use Rattle.link.specs.Step.{call, byte_step, poll_step, send_step}
use Rattle.link_state.specs.declared.Link.{Link}
use Rattle.link_state.specs.declared.Phase.TheVariants.{Baud}
use Rattle.link_claims.specs.Calls.{byte, step}
use Rattle.link_claims.specs.Refusals.{table_of, refusal_of}
use Rattle.link_claims.specs.Sound.{SoundLink}
use Rattle.link_claims.specs.Answered.{answer_of}
use Rattle.link_claims.specs.Activity.{active}
use Rattle.link_claims.specs.Silence.{Outside, Refreshed}
use Rattle.link_claims.proofs.Sound.{parts, start-empty, checks-pass, sound_stays}
use Rattle.link_claims.proofs.Silence.{lost-outside, silence-counts_frames}
use Rattle.cases.specs.LinkCalls.{receives, Completes}

-- ---- a poll outside Start makes the silence and dead time checks, and tells a loss
pub record Polled (l : Link) (buffer : List ℕ) (last : ℕ) : Type 0 where
  pub unrefused : first (checks l (length buffer)) ≡ 0
  pub active : l.last ≡ last
  pub outside : Outside l

module _ (l : Link) (buffer : List ℕ) (last tick : ℕ) (p : Polled l buffer last) where
  pub polled : (poll_step l tick buffer).link ≡ cond (silence last tick) (fresh l.edition) (with_dead l (still_dead l.dead last tick))
  unfolding poll_step call done checked
  polled = rw (p.unrefused, lost-outside l.phase l.last tick p.outside, p.active)

  pub polled_lost : (poll_step l tick buffer).lost ≡ silence last tick
  unfolding poll_step call done
  polled_lost = rw (p.unrefused, lost-outside l.phase l.last tick p.outside, p.active)

-- ---- after a whole frame, and after a byte that is held then
module _ (l : Link) (b last : ℕ) (buffer : List ℕ) (k : Completes l b last buffer) where
  abbrev framed : Link
  framed = (byte_step l b last buffer).link

  refreshed : Refreshed last framed
  unfolding step
  refreshed = silence-counts_frames.refreshes l (byte b last buffer) k.answered

  sound-framed : SoundLink framed
  unfolding step
  sound-framed = sound_stays.each l (byte b last buffer) k.good

  wide : shortest_buffer ≤ length buffer
  unfolding step refusal_of table_of
  wide =
      let e = both (eqb (refusal_of l (byte b last buffer)) 0) _ (sym (silence-counts_frames.shown l (byte b last buffer)) ∙ k.answered) in
      (checks_passed l (length buffer) (eqb-true (refusal_of l (byte b last buffer)) 0 e.0)).1

  pub framed_polled : Polled framed buffer last
  framed_polled = record { unrefused = checks-pass framed (length buffer) sound-framed.passes wide; active = refreshed.ticked; outside = refreshed.outside }

  module _ (h tick : ℕ) (e : (byte_step framed h tick buffer).link.held ≡ 1) where
    abbrev later : Link
    later = (byte_step framed h tick buffer).link

    sound-later : SoundLink later
    unfolding step
    sound-later = sound_stays.each framed (byte h tick buffer) sound-framed

    not-whole : active (byte h tick buffer) (answer_of (byte_step framed h tick buffer)) ≡ false
    unfolding step
    not-whole = by_test (active (byte h tick buffer) (answer_of (byte_step framed h tick buffer))) refl where
      by_test : (t : Bool) → active (byte h tick buffer) (answer_of (byte_step framed h tick buffer)) ≡ t → t ≡ false
      by_test true q = let r = silence-counts_frames.refreshes framed (byte h tick buffer) q in absurd (omega (arith, e, r.empty))
      by_test false q = refl

    still-outside : Outside later
    still-outside q = omega (arith, e, start-empty later (parts later sound-later) q)

    pub held_polled : Polled later buffer last
    unfolding step
    held_polled =
        record {
          unrefused = checks-pass later (length buffer) sound-later.passes wide;
          active = silence-counts_frames.unmoved framed (byte h tick buffer) not-whole still-outside ∙ refreshed.ticked;
          outside = still-outside;
        }

-- what is sent is the frame
pub frame-sent : (l : Link) (bytes : List ℕ) (tick : ℕ) (buffer : List ℕ)
    → first (send_checks l (checked l tick) (length bytes) (length buffer)) ≡ 0
    → sent_by (send_step l bytes tick buffer) ≡ data_frame bytes
unfolding send_step call done lay
frame-sent l bytes tick buffer h = rw h (take_at (data_frame bytes) _ _ refl)

-- no time has passed
now : (tick : ℕ) → tick < 2 ^ 32 → silence tick tick ≡ false
unfolding silence
now tick h = lt-leb 250 (elapsed tick tick) (omega arith)

module _ (edition : ℕ) (i : is_edition edition ≡ true) (tick : ℕ) (h : tick < 2 ^ 32) (buffer : List ℕ) (k : 67 ≤ length buffer) where
  -- a sound link in Baud that was just active hears a byte
  abbrev Hears : Link → Type 0
  Hears l = (sound l ≡ true) × (l.last ≡ tick) × (l.phase ≡ Baud) × (l.dead ≡ false)

  hears : (l : Link) (b : ℕ) → Hears l → (byte_step l b tick buffer).link ≡ (heard l b tick).link
  unfolding byte_step call checks first done checked lost still_dead received listens
  hears l b a = rw (a.0, le-leb 67 (length buffer) k, a.2, a.1, now tick h, a.3)

  -- and so for bytes one after the other
  abbrev heard_all : Link → List ℕ → Link
  heard_all l [] = l
  heard_all l (b ∷ bs) = heard_all (heard l b tick).link bs

  abbrev HearsAll : Link → List ℕ → Type 0
  HearsAll l [] = Unit {0}
  HearsAll l (b ∷ bs) = Hears l × HearsAll (heard l b tick).link bs

  hears_all : (l : Link) (bs : List ℕ) → HearsAll l bs → receives l tick buffer bs ≡ heard_all l bs
  unfolding receives
  hears_all l [] a = refl
  hears_all l (b ∷ bs) a = rw (hears l b a.0) (hears_all (heard l b tick).link bs a.1)

  pub baud_read : receives (in_baud edition tick) tick buffer (0x03 ∷ 0x00 ∷ 0xC2 ∷ 0x01 ∷ 0x00 ∷ 0xC0 ∷ []) ≡ in_open edition 115200 tick
  unfolding
      sound holder_good all_are good_start begins known size on_list fits_phase fits_edition in_baud in_open renewed kept heard reading all_but_sum lacks_sum
      xored whole_frame baud_frame words.word
  baud_read =
      hears_all (in_baud edition tick) (0x03 ∷ 0x00 ∷ 0xC2 ∷ 0x01 ∷ 0x00 ∷ 0xC0 ∷ [])
      ((rw i, refl, refl, refl), ((rw i, refl, refl, refl), ((rw i, refl, refl, refl), ((rw i, refl, refl, refl), ((rw i, refl, refl, refl), ((rw i, refl, refl, refl), tt))))))
