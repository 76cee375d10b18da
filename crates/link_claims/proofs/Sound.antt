-- Every record that a call hands back is sound where the one that it was given is.
use Prim.Native.Nat.{ℕ, ◌+◌, ◌≤◌, ◌<◌}
use mathlib.Core.Path.{◌≡◌, refl, sym, ◌∙◌}
use mathlib.Core.List.{List, [], ◌∷◌, ◌++◌}
use mathlib.Core.Bool.{Bool, true, false, cond, not, ◌&&◌}
use native.Mathlib.Omega.{arith}
use lib.ListN.{length}
use lib.Dec.{eqb, leb}
use borrow.Author.Tests.{le-leb, eqb-true}
use Rattle.lists.specs.Bytes.{all_are}
use Rattle.lists.specs.Checks.{first}
use Rattle.lists.proofs.Tests.{absurd_test, both, first_passed}
use Rattle.fields.specs.Checksum.{xored}
use Rattle.link_frames.specs.Editions.{later_edition, is_edition}
use Rattle.link_frames.specs.Frames.{most_contents, most_data, most_held}
use Rattle.link_frames.specs.Reading.{good_start, begins, all_but_sum, more, whole, wrong, reading}
use Rattle.link_frames.proofs.Holder.{lacks_held}
use Rattle.link_state.specs.Clock.{still_dead}
use Rattle.link_state.specs.Link.{by_phase, store, held_of, at_rest, first_rate, fresh, in_baud, in_open, renewed, kept, with_rpc, with_outstanding, with_dead, with_power}
use Rattle.link_state.specs.Silence.{checked}
use Rattle.link_state.specs.Rates.{on_list}
use Rattle.link_refusals.specs.Sound.{fits_phase, fits_edition, holder_good, sound}
use Rattle.link_refusals.specs.Refusals.{shortest_buffer, checks, send_checks}
use Rattle.link_refusals.proofs.Sound.{held-good}
use Rattle.link_events.specs.Turns.{pulled, listens}
use Rattle.link.specs.Answers.{done, refusing}
use Rattle.link.specs.Hearing.{received}
use Rattle.link.proofs.Kept.{held_kept, zero-kept, length-kept}
use Rattle.link.proofs.Hearing.{space_left}
use Rattle.link_state.specs.declared.Link.{Link}
use Rattle.link_state.specs.declared.Phase.{Phase}
use Rattle.link_state.specs.declared.Phase.TheVariants.{Start, Baud, Open}
use Rattle.link_claims.specs.Calls.{Call, pull, byte, poll, send, tick_of, step, after}
use Rattle.link_claims.specs.Refusals.{table_of, refusal_of, refusal_later, SoundAfterChecks}
use Rattle.link_claims.specs.Sound.{SoundLink, SoundStays}
use Rattle.link_claims.proofs.Ways.{move_of, by_refusal, by_checked, by_pulled, Ways, ways_received}
use Rattle.link_claims.proofs.Apart.{never}

-- ---- the parts of a sound record, with its holder
pub record Parts (l : Link) : Type 0 where
  pub holder : holder_good l.edition l.held (store l) ≡ true
  pub rate : on_list l.rate ≡ true
  pub phase : fits_phase l.phase l.dead l.rpc l.outstanding l.rate l.held ≡ true
  pub edition : fits_edition l.edition l.power l.phase ≡ true
  pub long : length l.frame ≡ most_contents

pub tests : (l : Link) → sound l ≡ true
    → (holder_good l.edition l.held (store l) ≡ true) × ((on_list l.rate ≡ true) × ((fits_phase l.phase l.dead l.rpc l.outstanding l.rate l.held ≡ true) × (fits_edition l.edition l.power l.phase ≡ true)))
unfolding sound
tests l e = let a = both (holder_good l.edition l.held (store l)) _ e in let b = both (on_list l.rate) _ a.1 in (a.0, (b.0, both (fits_phase l.phase l.dead l.rpc l.outstanding l.rate l.held) _ b.1))

pub parts : (l : Link) → SoundLink l → Parts l
parts l s = let t = tests l s.passes in record { holder = t.0; rate = t.1.0; phase = t.1.1.0; edition = t.1.1.1; long = s.holder }

pub whole_again : (l : Link) → Parts l → SoundLink l
unfolding sound
whole_again l p = record { passes = rw (p.holder, p.rate, p.phase) p.edition; holder = p.long }

rest-holder : (edition : ℕ) → holder_good edition 0 (0 ∷ at_rest) ≡ true
unfolding holder_good good_start begins all_are
rest-holder edition = refl

fits-empty : (p : Phase) (d r o : Bool) (rate n : ℕ) → fits_phase p d r o rate n ≡ true → fits_phase p d r o rate 0 ≡ true
unfolding fits_phase
fits-empty Start true r o rate n e = e
fits-empty Start false true o rate n e = e
fits-empty Start false false true rate n e = e
fits-empty Start false false false rate n e = rw (both (eqb rate first_rate) (eqb n 0) e).0
fits-empty Baud d r o rate n e = e
fits-empty Open d r o rate n e = e

fits_more : (p : Phase) (d r o : Bool) (rate n m : ℕ) → (p ≡ Start → ⊥) → fits_phase p d r o rate n ≡ true → fits_phase p d r o rate m ≡ true
unfolding fits_phase
fits_more Start d r o rate n m h e = absurd (h refl)
fits_more Baud d r o rate n m h e = e
fits_more Open d r o rate n m h e = e

fits-dead : (p : Phase) (d x r o : Bool) (rate n : ℕ) → fits_phase p d r o rate n ≡ true → fits_phase p (d && x) r o rate n ≡ true
unfolding fits_phase
fits-dead Start true x r o rate n e = absurd_test e
fits-dead Start false x r o rate n e = e
fits-dead Baud true x r o rate n e = absurd_test e
fits-dead Baud false x r o rate n e = e
fits-dead Open d x r o rate n e = refl

fits_open : (p : Phase) (d r o : Bool) (rate n : ℕ) → p ≡ Open → fits_phase p d r o rate n ≡ true
unfolding fits_phase
fits_open p d r o rate n e = rw e

-- in Start nothing is held
pub start-empty : (l : Link) → Parts l → l.phase ≡ Start → l.held ≡ 0
unfolding fits_phase
start-empty l p q =
    let a = both (not l.dead) _ (rw q at p.phase) in
    let b = both (not l.rpc) _ a.1 in
    let c = both (not l.outstanding) _ b.1 in
    eqb-true l.held 0 (both (eqb l.rate first_rate) (eqb l.held 0) c.1).1

-- ---- the edition
abbrev pub Edition : ℕ → Type 0
Edition edition = is_edition edition ≡ true

off-fits : (edition : ℕ) (p : Phase) → Edition edition → fits_edition edition false p ≡ true
unfolding fits_edition
off-fits edition p e = rw e

edition_of : (edition : ℕ) (on : Bool) (p : Phase) → fits_edition edition on p ≡ true → Edition edition
unfolding fits_edition
edition_of edition on p e = (both (is_edition edition) _ e).0

pub sound-edition : (l : Link) → sound l ≡ true → Edition l.edition
sound-edition l e = edition_of l.edition l.power l.phase (tests l e).1.1.1

pub own_edition : (l : Link) → Parts l → Edition l.edition
own_edition l p = edition_of l.edition l.power l.phase p.edition

power-fits : (edition : ℕ) (on : Bool) (p : Phase) → Edition edition → p ≡ Open → (on ≡ true → edition ≡ later_edition) → fits_edition edition on p ≡ true
unfolding fits_edition is_edition
power-fits edition true p e o h = rw (h refl, o)
power-fits edition false p e o h = rw e

long-fresh : (edition : ℕ) → length (fresh edition).frame ≡ most_contents
unfolding fresh
long-fresh edition = refl

-- ---- the records that the rules name
pub parts_fresh : (edition : ℕ) → Edition edition → Parts (fresh edition)
unfolding fresh on_list fits_phase
parts_fresh edition e = record { holder = rest-holder edition; rate = refl; phase = refl; edition = off-fits edition Start e; long = refl }

parts_baud : (edition tick : ℕ) → Edition edition → Parts (in_baud edition tick)
unfolding in_baud on_list fits_phase
parts_baud edition tick e = record { holder = rest-holder edition; rate = refl; phase = refl; edition = off-fits edition Baud e; long = refl }

parts_open : (edition rate tick : ℕ) → Edition edition → on_list rate ≡ true → Parts (in_open edition rate tick)
unfolding in_open fits_phase
parts_open edition rate tick d e = record { holder = rest-holder edition; rate = e; phase = refl; edition = off-fits edition Open d; long = refl }

module _ (l : Link) (p : Parts l) where
  parts_renewed : (tick : ℕ) → Parts (renewed l tick)
  unfolding renewed
  parts_renewed tick = record { holder = rest-holder l.edition; edition = p.edition; rate = p.rate; phase = fits-empty l.phase l.dead l.rpc l.outstanding l.rate l.held p.phase; long = refl }

  parts_rpc : (r : Bool) → l.phase ≡ Open → Parts (with_rpc l r)
  parts_rpc r e = record { holder = p.holder; edition = p.edition; rate = p.rate; phase = fits_open l.phase l.dead r l.outstanding l.rate l.held e; long = p.long }

  parts_power : (on : Bool) → l.phase ≡ Open → (on ≡ true → l.edition ≡ later_edition) → Parts (with_power l on)
  parts_power on e h = record { holder = p.holder; rate = p.rate; phase = p.phase; edition = power-fits l.edition on l.phase (own_edition l p) e h; long = p.long }

  pub parts_outstanding : (o : Bool) → l.phase ≡ Open → Parts (with_outstanding l o)
  parts_outstanding o e = record { holder = p.holder; edition = p.edition; rate = p.rate; phase = fits_open l.phase l.dead l.rpc o l.rate l.held e; long = p.long }

  module _ (f : all_but_sum l.edition (held_of l) ≡ false) where
    pub left : l.held < most_held
    left = let h = held-good l.edition l.held l.kind l.frame p.holder in
        space_left l p.long p.holder (sym (lacks_held l.edition l.held l.kind l.frame p.long h.most h.zeros) ∙ f)

    holder-kept : (b : ℕ) → good_start l.edition (held_of l ++ (b ∷ [])) ≡ true → holder_good l.edition (l.held + 1) (store (kept l b)) ≡ true
    unfolding holder_good kept
    holder-kept b g =
        let h = held-good l.edition l.held l.kind l.frame p.holder in
        let q : leb (l.held + 1) most_held ≡ true = le-leb (l.held + 1) most_held (omega (arith, left)) in
        let s : good_start l.edition (held_of (kept l b)) ≡ true = rw (held_kept l b p.long left) g in
        rw (q, zero-kept l b p.long left h.zeros) s

    pub parts_kept : (b : ℕ) → good_start l.edition (held_of l ++ (b ∷ [])) ≡ true → (l.phase ≡ Start → ⊥) → Parts (kept l b)
    unfolding kept
    parts_kept b g h = record { holder = holder-kept b g; edition = p.edition; rate = p.rate; phase = fits_more l.phase l.dead l.rpc l.outstanding l.rate l.held (l.held + 1) h p.phase; long = length-kept l b p.long left }

-- ---- after the silence and dead time checks
sound-dead : (l : Link) (last tick : ℕ) → sound l ≡ true → sound (with_dead l (still_dead l.dead last tick)) ≡ true
unfolding sound still_dead
sound-dead l last tick e =
    let t = tests l e in
    rw (t.0, t.1.0, fits-dead l.phase l.dead _ l.rpc l.outstanding l.rate l.held t.1.1.0) t.1.1.1

pub parts_dead : (l : Link) → Parts l → (last tick : ℕ) → Parts (with_dead l (still_dead l.dead last tick))
parts_dead l p last tick =
    parts (with_dead l (still_dead l.dead last tick)) (record { passes = sound-dead l last tick (whole_again l p).passes; holder = p.long })

sound-checked : (l : Link) (tick : ℕ) → sound l ≡ true → sound (checked l tick) ≡ true
sound-checked l tick e = by_checked (λ l'. sound l' ≡ true) l tick (λ _. (whole_again (fresh l.edition) (parts_fresh l.edition (edition_of l.edition l.power l.phase (tests l e).1.1.1))).passes) (λ _. sound-dead l l.last tick e)

long-checked : (l : Link) (tick : ℕ) → length l.frame ≡ most_contents → length (checked l tick).frame ≡ most_contents
long-checked l tick e = by_checked (λ l'. length l'.frame ≡ most_contents) l tick (λ _. long-fresh l.edition) (λ _. e)

pub parts_checked : (l : Link) (tick : ℕ) → Parts l → Parts (checked l tick)
parts_checked l tick p =
    parts (checked l tick) (record { passes = sound-checked l tick (whole_again l p).passes; holder = long-checked l tick p.long })

same_number : (l : Link) (c : Call) → sound l ≡ true → refusal_later l c ≡ refusal_of l c
unfolding refusal_later refusal_of table_of checks send_checks first
same_number l (pull tick buffer) e = rw (sound-checked l tick e, e)
same_number l (byte b tick buffer) e = rw (sound-checked l tick e, e)
same_number l (poll tick buffer) e = rw (sound-checked l tick e, e)
same_number l (send bytes tick buffer) e = rw (sound-checked l tick e, e)

pub sound-after_checks : SoundAfterChecks
sound-after_checks = record { stays = sound-checked; same = same_number }

-- ---- a byte
pub not_start : (p : Phase) (d : Bool) → listens p d ≡ true → p ≡ Start → ⊥
unfolding listens
not_start p d e q = absurd_test (rw q at e)

-- what is held is not yet all of a frame, and goes on
pub goes_on : (edition : ℕ) (h : List ℕ) (b : ℕ) → reading edition h b ≡ more → (all_but_sum edition h ≡ false) × (good_start edition (h ++ (b ∷ [])) ≡ true)
unfolding reading
goes_on edition h b = by_test (all_but_sum edition h) refl (eqb b (xored 0 h)) (good_start edition (h ++ (b ∷ []))) refl where
  by_test : (t : Bool) → all_but_sum edition h ≡ t → (u v : Bool) → good_start edition (h ++ (b ∷ [])) ≡ v → cond t (cond u whole wrong) (cond v more wrong) ≡ more
      → (all_but_sum edition h ≡ false) × (good_start edition (h ++ (b ∷ [])) ≡ true)
  by_test true e true v g q = never (cc)
  by_test true e false v g q = never (cc)
  by_test false e u true g q = (e, g)
  by_test false e u false g q = never (cc)

module _ (l : Link) (p : Parts l) (tick : ℕ) where
  open_still : l.phase ≡ Open → (renewed l tick).phase ≡ Open
  unfolding renewed
  open_still e = e

  later-still : {on : Bool} → (on ≡ true → l.edition ≡ later_edition) → on ≡ true → (renewed l tick).edition ≡ later_edition
  unfolding renewed
  later-still h e = h e

  parts_ways : Ways (λ m n e. Parts m.link) l tick
  parts_ways =
      let r = parts_renewed l p tick in
      record {
        unread = λ _. r;
        opens = λ rate e _. parts_open l.edition rate tick (own_edition l p) e;
        off_list = r;
        breaks = parts_fresh l.edition (own_edition l p);
        beats = r;
        ends = λ code _ e. parts_outstanding (renewed l tick) r false (open_still e);
        sets = λ rpc e. parts_rpc (renewed l tick) r rpc (open_still e);
        powers = λ on e h. parts_power (renewed l tick) r on (open_still e) (later-still h);
        fails = r;
        hands = λ count bytes _. r;
      }

  parts_received : (b : ℕ) → Parts (received l b tick).link
  parts_received b =
      ways_received (λ m n e. Parts m.link) l b tick (λ _. p)
      (λ e q. let g = goes_on l.edition (held_of l) b q in parts_kept l p g.0 b g.1 (not_start l.phase l.dead e))
      (λ _. parts_ways)

  parts_pulled : Parts (pulled l tick).link
  parts_pulled = by_pulled (λ m. Parts m.link) l tick (parts_baud l.edition tick (own_edition l p)) p

-- ---- a call
pub checks-pass : (l : Link) (n : ℕ) → sound l ≡ true → shortest_buffer ≤ n → first (checks l n) ≡ 0
unfolding checks first
checks-pass l n s h = rw (s, le-leb shortest_buffer n h)

is_open : (p : Phase) → by_phase p false false true ≡ true → p ≡ Open
is_open Start e = absurd_test e
is_open Baud e = absurd_test e
is_open Open e = refl

pub send_open : (l l' : Link) (count buffer : ℕ) → first (send_checks l l' count buffer) ≡ 0 → l'.phase ≡ Open
unfolding send_checks
send_open l l' count buffer e = is_open l'.phase (first_passed _ refl e).1.0

parts_moved : (l : Link) (c : Call) → Parts l → refusal_of l c ≡ 0 → Parts (move_of l c).link
unfolding refusal_of table_of
parts_moved l (pull tick buffer) p e = parts_pulled (checked l tick) (parts_checked l tick p) tick
parts_moved l (byte b tick buffer) p e = parts_received (checked l tick) (parts_checked l tick p) tick b
parts_moved l (poll tick buffer) p e = parts_checked l tick p
parts_moved l (send bytes tick buffer) p e =
    parts_outstanding (checked l tick) (parts_checked l tick p) true (send_open l (checked l tick) (length bytes) (length buffer) e)

pub parts_step : (l : Link) (c : Call) → Parts l → Parts (step l c).link
unfolding done refusing
parts_step l c p = by_refusal (λ s. Parts s.link) l c (parts_moved l c p) (λ _. p)

parts_after : (l : Link) (cs : List Call) → Parts l → Parts (after l cs)
unfolding after
parts_after l [] p = p
parts_after l (c ∷ cs) p = parts_after (step l c).link cs (parts_step l c p)

pub sound_stays : SoundStays
sound_stays =
    record {
      each = λ l c s. whole_again (step l c).link (parts_step l c (parts l s));
      all = λ l cs s. whole_again (after l cs) (parts_after l cs (parts l s));
    }

-- ---- refusal 5
five : (t : Bool) (rest n : ℕ) → (n ≡ 5 → ⊥) → cond t rest n ≡ 5 → rest ≡ 5
five true rest n h e = e
five false rest n h e = absurd (h e)

checks-not_five : (l : Link) (buffer : ℕ) → sound l ≡ true → first (checks l buffer) ≡ 5 → ⊥
unfolding checks first
checks-not_five l buffer s e =
    let a = five (leb shortest_buffer buffer) 0 8 (λ q. omega arith) (rw s at e) in
    omega arith

send-not_five : (l l' : Link) (count buffer : ℕ) → sound l ≡ true → first (send_checks l l' count buffer) ≡ 5 → ⊥
unfolding send_checks first
send-not_five l l' count buffer s e =
    let a = five (by_phase l'.phase false false true) _ 10 (λ q. omega arith) (rw s at e) in
    let b = five (not l'.dead) _ 12 (λ q. omega arith) a in
    let c = five l'.rpc _ 11 (λ q. omega arith) b in
    let d = five (not l'.outstanding) _ 13 (λ q. omega arith) c in
    let f = five (leb count most_data) _ 14 (λ q. omega arith) d in
    let g = five (leb shortest_buffer buffer) 0 8 (λ q. omega arith) f in
    omega arith

not_five : (l l' : Link) (c : Call) → sound l ≡ true → first (table_of l l' c) ≡ 5 → ⊥
unfolding table_of
not_five l l' (pull tick buffer) s e = checks-not_five l (length buffer) s e
not_five l l' (byte b tick buffer) s e = checks-not_five l (length buffer) s e
not_five l l' (poll tick buffer) s e = checks-not_five l (length buffer) s e
not_five l l' (send bytes tick buffer) s e = send-not_five l l' (length bytes) (length buffer) s e

pub never_five : (l : Link) (c : Call) → sound l ≡ true → refusal_of l c ≡ 5 → ⊥
unfolding refusal_of
never_five l c s e = not_five l (checked l (tick_of c)) c s e

pub sound-after : (edition : ℕ) → Edition edition → (cs : List Call) → sound (after (fresh edition) cs) ≡ true
sound-after edition e cs = (whole_again (after (fresh edition) cs) (parts_after (fresh edition) cs (parts_fresh edition e))).passes
