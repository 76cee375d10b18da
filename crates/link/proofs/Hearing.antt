-- The ways of a byte that is heard, each in plain variables.
use Prim.Native.Nat.{ℕ, ◌+◌, ◌-◌, ◌<◌}
use mathlib.Core.Path.{◌≡◌, sym, ◌∙◌}
use mathlib.Core.List.{[], ◌∷◌, ◌++◌}
use mathlib.Core.Bool.{true, false}
use native.Mathlib.Omega.{arith}
use lib.ListN.{length, take, drop, get_or}
use borrow.Author.Tests.{eq-eqb, ne_eqb}
use Rattle.fields.specs.Words.{word}
use Rattle.fields.specs.Checksum.{xored}
use Rattle.link_frames.specs.Frames.{most_contents, most_held}
use Rattle.link_frames.specs.Reading.{good_start, all_but_sum, begins, lacks_sum, reading}
use Rattle.link_frames.proofs.Holder.{zero-at, begins-held, lacks_held, sum-held}
use Rattle.link_frames.proofs.Sizes.{lacks_bounds, begun}
use Rattle.link_state.specs.Link.{store, held_of, renewed, kept}
use Rattle.link_refusals.specs.Sound.{holder_good}
use Rattle.link_state.specs.declared.Link.{Link}
use Rattle.link_state.specs.declared.Phase.TheVariants.{Start, Baud, Open}
use Rattle.link_refusals.proofs.Sound.{held-good}
use Rattle.link_events.specs.Turns.{quiet, broken}
use Rattle.link_effects.specs.Whole.{baud_frame, open_frame}
use Rattle.link.specs.Hearing.{whole_frame, heard}
use Rattle.link.proofs.Padded.{data_padded}
use Rattle.link.proofs.Kept.{held_kept, zero-kept, length-kept}

pub space_left : (l : Link) → length l.frame ≡ most_contents → holder_good l.edition l.held (store l) ≡ true
    → lacks_sum l.edition l.held l.kind (get_or l.frame 0 0) ≡ false → l.held < most_held
space_left l f good e = let h = held-good l.edition l.held l.kind l.frame good in
    begun l.edition l.held l.kind (get_or l.frame 0 0) (sym (begins-held l.edition l.held l.kind l.frame f h.most h.zeros) ∙ h.start) e

module _ (l : Link) (tick : ℕ) (f : length l.frame ≡ most_contents) (good : holder_good l.edition l.held (store l) ≡ true) where
  at_held : (i : ℕ) → get_or (held_of l) i 0 ≡ get_or (store l) i 0
  at_held i = zero-at l.held (store l) i (held-good l.edition l.held l.kind l.frame good).zeros

  pub whole-start : l.phase ≡ Start → whole_frame l (held_of l) tick ≡ quiet (renewed l tick)
  unfolding whole_frame
  whole-start e = rw e

  pub whole_baud : l.phase ≡ Baud → whole_frame l (held_of l) tick ≡ baud_frame (renewed l tick) l.kind (word l.frame 0) tick
  unfolding whole_frame word
  whole_baud e = rw (e, at_held 0, at_held 1, at_held 2, at_held 3, at_held 4)

  pub whole_open : l.phase ≡ Open → whole_frame l (held_of l) tick ≡ open_frame (renewed l tick) l.kind (get_or l.frame 0 0) (drop 1 l.frame)
  unfolding whole_frame
  whole_open e = rw (e, at_held 0, at_held 1, data_padded l.held l.kind l.frame f (held-good l.edition l.held l.kind l.frame good).zeros)

  module _ (byte : ℕ) where
    module _ (e : lacks_sum l.edition l.held l.kind (get_or l.frame 0 0) ≡ true) where
      all_but : all_but_sum l.edition (held_of l) ≡ true
      all_but = let h = held-good l.edition l.held l.kind l.frame good in lacks_held l.edition l.held l.kind l.frame f h.most h.zeros ∙ e

      sum_is : xored 0 (held_of l) ≡ xored l.kind (take (l.held - 1) l.frame)
      sum_is = let b = lacks_bounds l.edition l.held l.kind (get_or l.frame 0 0) e in sum-held l.held l.kind l.frame (λ q. omega arith)

      pub heard-whole : byte ≡ xored l.kind (take (l.held - 1) l.frame) → heard l byte tick ≡ whole_frame l (held_of l) tick
      unfolding heard reading
      heard-whole q = rw (all_but, sum_is, eq-eqb byte _ q)

      pub heard_damaged : (byte ≡ xored l.kind (take (l.held - 1) l.frame) → ⊥) → heard l byte tick ≡ broken l.edition
      unfolding heard reading
      heard_damaged q = rw (all_but, sum_is, ne_eqb byte _ q)

    module _ (e : lacks_sum l.edition l.held l.kind (get_or l.frame 0 0) ≡ false) where
      left : l.held < most_held
      left = space_left l f good e

      not-all : all_but_sum l.edition (held_of l) ≡ false
      not-all = let h = held-good l.edition l.held l.kind l.frame good in lacks_held l.edition l.held l.kind l.frame f h.most h.zeros ∙ e

      start-kept : good_start l.edition (held_of l ++ (byte ∷ [])) ≡ begins (kept l byte).edition (kept l byte).held (kept l byte).kind (get_or (kept l byte).frame 0 0)
      unfolding kept
      start-kept = let h = held-good l.edition l.held l.kind l.frame good in
          rw (← (held_kept l byte f left)) (begins-held l.edition (l.held + 1) (kept l byte).kind (kept l byte).frame (length-kept l byte f left) (omega (arith, left)) (zero-kept l byte f left h.zeros))

      module _ (l' : Link) (k : l' ≡ kept l byte) where
        pub heard-more : begins l'.edition l'.held l'.kind (get_or l'.frame 0 0) ≡ true → heard l byte tick ≡ quiet l'
        unfolding heard reading
        heard-more q = rw (not-all, start-kept, ← k, q)

        pub heard-wrong : begins l'.edition l'.held l'.kind (get_or l'.frame 0 0) ≡ false → heard l byte tick ≡ broken l.edition
        unfolding heard reading
        heard-wrong q = rw (not-all, start-kept, ← k, q)
