-- What a sound record says of its holder, and that the silence and dead time checks keep it; what a call that is not refused may rely on.
use Prim.Native.Nat.{ℕ, ◌≤◌, ◌<◌}
use mathlib.Core.Path.{◌≡◌, refl, sym}
use mathlib.Core.List.{List, ◌∷◌}
use mathlib.Core.Bool.{Bool, true, false, cond, ◌&&◌}
use lib.ListN.{length, take, drop, get_or}
use lib.Dec.{leb}
use borrow.Author.Tests.{le-leb, lt-leb, leb-true}
use Rattle.lists.specs.Bytes.{all_are}
use Rattle.lists.specs.Checks.{first}
use Rattle.lists.proofs.Tests.{both, first_passed}
use Rattle.link_frames.specs.Frames.{most_contents, most_data, most_held}
use Rattle.link_frames.specs.Reading.{good_start, begins}
use Rattle.link_frames.proofs.Holder.{begins-held}
use Rattle.link_state.specs.Clock.{still_dead}
use Rattle.link_state.specs.Link.{store, fresh, with_dead}
use Rattle.link_state.specs.Silence.{lost, checked}
use Rattle.link_refusals.specs.Sound.{holder_good, sound}
use Rattle.link_refusals.specs.Refusals.{shortest_buffer, checks, send_checks}
use Rattle.link_state.specs.declared.Link.{Link}

-- ---- what is held
pub record Held (edition n x : ℕ) (xs : List ℕ) : Type 0 where
  pub most : n ≤ most_held
  pub zeros : all_are 0 (drop n (x ∷ xs)) ≡ true
  pub start : good_start edition (take n (x ∷ xs)) ≡ true

pub held-good : (edition n x : ℕ) (xs : List ℕ) → holder_good edition n (x ∷ xs) ≡ true → Held edition n x xs
unfolding holder_good
held-good edition n x xs e =
    let a = both (leb n most_held) (all_are 0 (drop n (x ∷ xs)) && good_start edition (take n (x ∷ xs))) e in
    let b = both (all_are 0 (drop n (x ∷ xs))) (good_start edition (take n (x ∷ xs))) a.1 in
    record { most = leb-true n most_held a.0; zeros = b.0; start = b.1 }

module _ (edition n x : ℕ) (xs : List ℕ) where
  pub holder-long : most_held < n → false ≡ holder_good edition n (x ∷ xs)
  unfolding holder_good
  holder-long h = rw (lt-leb n most_held h)

  pub holder_behind : n ≤ most_held → all_are 0 (drop n (x ∷ xs)) ≡ false → false ≡ holder_good edition n (x ∷ xs)
  unfolding holder_good
  holder_behind h z = rw (le-leb n most_held h, z)

  pub holder-begins : length xs ≡ most_contents → n ≤ most_held → all_are 0 (drop n (x ∷ xs)) ≡ true → begins edition n x (get_or xs 0 0) ≡ holder_good edition n (x ∷ xs)
  unfolding holder_good
  holder-begins l h z = rw (le-leb n most_held h, z) (sym (begins-held edition n x xs l h z))

-- ---- the holder after the silence and dead time checks
sound-holder : (l : Link) → sound l ≡ true → holder_good l.edition l.held (store l) ≡ true
unfolding sound
sound-holder l e = (both (holder_good l.edition l.held (store l)) _ e).0

fresh-holder : (edition : ℕ) → holder_good (fresh edition).edition (fresh edition).held (store (fresh edition)) ≡ true
unfolding fresh holder_good good_start begins all_are
fresh-holder edition = refl

pub checked-holder : (l : Link) (tick : ℕ) → sound l ≡ true → holder_good (checked l tick).edition (checked l tick).held (store (checked l tick)) ≡ true
unfolding checked
checked-holder l tick e = by_test (lost l.phase l.last tick) (still_dead l.dead l.last tick) where
  by_test : (t d : Bool) → holder_good (cond t (fresh l.edition) (with_dead l d)).edition (cond t (fresh l.edition) (with_dead l d)).held (store (cond t (fresh l.edition) (with_dead l d))) ≡ true
  by_test true d = fresh-holder l.edition
  by_test false d = sound-holder l e

-- ---- calls that are not refused
pub checks_passed : (l : Link) (buffer : ℕ) → first (checks l buffer) ≡ 0 → (sound l ≡ true) × (shortest_buffer ≤ buffer)
unfolding checks
checks_passed l buffer e =
    let p = first_passed _ refl e in
    (p.0, leb-true shortest_buffer buffer p.1.0)

pub send_passed : (l l' : Link) (count buffer : ℕ) → first (send_checks l l' count buffer) ≡ 0 → (count ≤ most_data) × (shortest_buffer ≤ buffer)
unfolding send_checks
send_passed l l' count buffer e =
    let p = (first_passed _ refl e).1.1.1.1.1 in
    (leb-true count most_data p.0, leb-true shortest_buffer buffer p.1.0)
