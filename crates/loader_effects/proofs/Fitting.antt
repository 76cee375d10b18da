-- A block that is past every check fits: it is written as document 01 says.
use Prim.Native.Nat.{ℕ, ◌+◌, ◌-◌, ◌*◌, ◌/◌, ◌≤◌}
use mathlib.Core.Path.{◌≡◌, refl}
use mathlib.Core.List.{List}
use mathlib.Core.Bool.{true}
use native.Mathlib.Omega.{arith}
use borrow.Author.Tests.{le-leb}
use lib.ListN.{length}
use Rattle.esp_begin.specs.Begin.{round_up, reached, memory_start}
use Rattle.esp_begin.specs.declared.Begin.{Begin}
use Rattle.esp_begin.specs.declared.Lengths.{Lengths}
use Rattle.esp_begin.proofs.Rules.{Ruled, Inside}
use Rattle.esp_begin.proofs.Sectors.{reaches, round_mono}
use Rattle.esp_commands.specs.Block.{data_at, payload}
use Rattle.esp_parameters.specs.Parameters.{place}
use Rattle.esp_commands.proofs.Rules.{data_length}
use Rattle.loader_sessions.specs.Session.{flash_open, memory_open, announced, accepted, session_good}
use Rattle.loader_sessions.specs.declared.Session.{Session}
use Rattle.loader_errors.proofs.Checks.{DataPassed}
use Rattle.loader_blocks.specs.Flash.{flash_block, flash_fits, flash_written}
use Rattle.loader_blocks.specs.Memory.{words_block, words_fit, words_written}
use Rattle.loader_effects.proofs.Passing.{flash_ruled, memory_ruled}

-- a packet with a whole block has what is written of it
data_fits : (g : Begin) (k : ℕ) (p : List ℕ) → length p ≡ data_at + g.block → data_at + (reached g (k + 1) - reached g k) ≤ length p
data_fits g k p long = let r = reaches g k in omega arith

flash_fits_lem : (l : Lengths) (g : Begin) (k : ℕ) (p flash : List ℕ) → Ruled l g → l.flash ≡ length flash → length p ≡ data_at + g.block
    → flash_written g k p flash ≡ flash_block g k (payload p) flash
unfolding flash_written flash_fits
flash_fits_lem l g k p flash u e long =
    let r = reaches g k in
    let w = round_mono (reached g (k + 1)) g.size r.most in
    let b : g.offset + round_up (reached g (k + 1)) ≤ length flash = omega arith in
    rw (le-leb _ _ (data_fits g k p long), le-leb _ _ b)

in_places : (o w v s n : ℕ) → memory_start ≤ o → w ≤ v → v ≤ s → o + s ≤ memory_start + 4 * n
    → (o + w - memory_start) / 4 + (v - w) / 4 ≤ n
in_places o w v s n a b c d = omega arith

-- a block of a good memory BEGIN lies in the words
pub block-places : (l : Lengths) (g : Begin) (k : ℕ) → Inside l g → place (g.offset + reached g k) + (reached g (k + 1) - reached g k) / 4 ≤ l.words
unfolding place
block-places l g k u =
    let r = reaches g k in
    in_places g.offset _ _ g.size l.words u.start r.up r.most u.within

words_fit_lem : (l : Lengths) (g : Begin) (k : ℕ) (p words : List ℕ) → Inside l g → l.words ≡ length words → length p ≡ data_at + g.block
    → words_written g k p words ≡ words_block g k (payload p) words
unfolding words_written words_fit
words_fit_lem l g k p words u e long = rw (le-leb _ _ (data_fits g k p long), le-leb _ _ (rw e at (block-places l g k u)))

module _ (flash words p : List ℕ) (s : Session) where
  abbrev l : Lengths
  l = record { flash = length flash; words = length words }

  module _ (good : session_good l s ≡ true) where
    pub flash_written_lem : DataPassed (flash_open s) s p
        → flash_written (announced s) (accepted s) p flash ≡ flash_block (announced s) (accepted s) (payload p) flash
    flash_written_lem d =
        flash_fits_lem l (announced s) (accepted s) p flash (flash_ruled l s good d.is_open) refl
        (data_length p _ d.is_shaped d.sized-block)

    pub words_written_lem : DataPassed (memory_open s) s p
        → words_written (announced s) (accepted s) p words ≡ words_block (announced s) (accepted s) (payload p) words
    words_written_lem d =
        words_fit_lem l (announced s) (accepted s) p words (memory_ruled l s good d.is_open) refl
        (data_length p _ d.is_shaped d.sized-block)
