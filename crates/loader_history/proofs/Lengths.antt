-- No packet makes a session or an attach word that refusal 5 would find broken, and none changes the length of flash or words.
use mathlib.Core.Path.{◌≡◌, refl}
use mathlib.Core.List.{List}
use mathlib.Core.Bool.{true}
use Prim.Native.Nat.{ℕ, ◌+◌, ◌-◌, ◌≤◌, ◌<◌, min}
use native.Mathlib.Omega.{arith}
use borrow.Author.Tests.{le-leb}
use lib.ListN.{length, length-append, length-take, length-replicate, length-set}
use Rattle.lists.proofs.Laws.{length-lay}
use Rattle.lists.proofs.Tests.{both, Passed}
use Rattle.esp_attach.specs.Pins.{attach_good}
use Rattle.slip_packets.specs.Packets.{Packet, dropped, read}
use Rattle.esp_begin.specs.Begin.{begin_of, flash_rule, memory_rule, reached}
use Rattle.esp_begin.specs.declared.Begin.{Begin}
use Rattle.esp_begin.specs.declared.Lengths.{Lengths}
use Rattle.esp_begin.proofs.Rules.{Ruled, Inside}
use Rattle.esp_begin.proofs.Sectors.{reaches, round_mono, round_le}
use Rattle.esp_commands.specs.Header.{command}
use Rattle.esp_commands.specs.Block.{payload}
use Rattle.loader_sessions.specs.Session.{flash_open, memory_open, announced, accepted, advanced, session_good}
use Rattle.loader_errors.specs.Errors.{Kind, kind, flash_begin, flash_data, flash_end, memory_begin, memory_end, memory_data, sync, write_reg, read_reg, spi_attach, flash_digest, unknown, plain_checks, attach_checks, checks}
use Rattle.loader_sessions.specs.declared.Session.{Session}
use Rattle.loader_sessions.specs.declared.Session.TheVariants.{Closed, Flash, Memory}
use Rattle.loader_errors.proofs.Checks.{data_passed}
use Rattle.loader_blocks.specs.Flash.{flash_block}
use Rattle.loader_blocks.specs.Memory.{words_block}
use Rattle.loader_blocks.proofs.Memory.{length-words}
use Rattle.loader_registers.specs.Registers.{register_written}
use Rattle.loader_effects.specs.Core.{Core, lengths}
use Rattle.loader_effects.specs.Effects.{effect}
use Rattle.loader_effects.specs.Handle.{carried_out, failed, handle}
use Rattle.loader_effects.proofs.Passing.{flash_ruled, memory_ruled}
use Rattle.loader_effects.proofs.Fitting.{block-places}
use Rattle.loader_effects.proofs.Handled.{handle_cases}
use Rattle.loader_history.specs.Theorems.{Keeps}

fits : (o w v r s n x : ℕ) → w ≤ v → v ≤ r → r ≤ s → o + s ≤ n → o + w + (min (v - w) x + (r - v)) ≤ n
fits o w v r s n x a b c d = let q : min (v - w) x ≤ v - w = omega arith in omega arith

flash_block-length : (l : Lengths) (g : Begin) (k : ℕ) (x f : List ℕ) → Ruled l g → length f ≡ l.flash
    → length (flash_block g k x f) ≡ length f
unfolding flash_block
flash_block-length l g k x f u e =
    let m = reaches g k in
    let r = round_mono (reached g (k + 1)) g.size m.most in
    length-lay f _ _ (simp (length-append, length-take, length-replicate) (fits _ _ _ _ _ _ _ m.up (round_le _) r (rw e u.within)))

words_block-length : (l : Lengths) (g : Begin) (k : ℕ) (x ws : List ℕ) → Inside l g → length ws ≡ l.words
    → length (words_block g k x ws) ≡ length ws
unfolding words_block
words_block-length l g k x ws u e = length-lay ws _ _ (rw (length-words, e) (block-places l g k u))

-- one block more than fewer than all
advanced-good : (l : Lengths) (s : Session) → session_good l s ≡ true → accepted s < (announced s).count → session_good l (advanced s) ≡ true
unfolding session_good accepted announced advanced
advanced-good l Closed h lt = refl
advanced-good l (Flash g k) h lt = rw (both (flash_rule l g) _ h).0 (le-leb (k + 1) g.count (omega arith))
advanced-good l (Memory g k) h lt = rw (both (memory_rule l g) _ h).0 (le-leb (k + 1) g.count (omega arith))

module _ (c : Core) (p : List ℕ) (good : session_good (lengths c) c.session ≡ true) where
  flash_data_keeps : Passed (checks (lengths c) c.session flash_data p) → Keeps c (effect flash_data c p).core
  unfolding effect checks
  flash_data_keeps t =
      let d = data_passed (flash_open c.session) c.session p t in
      let u = flash_ruled (lengths c) c.session good d.is_open in
      let n = flash_block-length (lengths c) (announced c.session) (accepted c.session) (payload p) c.flash u refl in
      record { same_lengths = rw n; session = rw n (advanced-good (lengths c) c.session good d.more); attach = λ a. a }

  memory_data_keeps : Passed (checks (lengths c) c.session memory_data p) → Keeps c (effect memory_data c p).core
  unfolding effect checks
  memory_data_keeps t =
      let d = data_passed (memory_open c.session) c.session p t in
      let u = memory_ruled (lengths c) c.session good d.is_open in
      let n = words_block-length (lengths c) (announced c.session) (accepted c.session) (payload p) c.words u refl in
      record { same_lengths = rw n; session = rw n (advanced-good (lengths c) c.session good d.more); attach = λ a. a }

  effect_keeps : (k : Kind) → Passed (checks (lengths c) c.session k p) → Keeps c (effect k c p).core
  unfolding effect checks plain_checks attach_checks attach_good session_good register_written
  effect_keeps flash_begin t =
      record { same_lengths = refl; session = rw t.1.0 (le-leb 0 (begin_of p).count (omega arith)); attach = λ a. a }
  effect_keeps flash_data t = flash_data_keeps t
  effect_keeps flash_end t = record { same_lengths = refl; session = refl; attach = λ a. a }
  effect_keeps memory_begin t =
      record { same_lengths = refl; session = rw t.1.0 (le-leb 0 (begin_of p).count (omega arith)); attach = λ a. a }
  effect_keeps memory_end t = record { same_lengths = refl; session = refl; attach = λ a. a }
  effect_keeps memory_data t = memory_data_keeps t
  effect_keeps sync t = record { same_lengths = refl; session = good; attach = λ a. a }
  effect_keeps write_reg t = record { same_lengths = simp length-set; session = simp length-set good; attach = λ a. a }
  effect_keeps read_reg t = record { same_lengths = refl; session = good; attach = λ a. a }
  effect_keeps spi_attach t = record { same_lengths = refl; session = good; attach = λ _. rw (t.1.0, t.1.1.0) }
  effect_keeps flash_digest t = record { same_lengths = refl; session = good; attach = λ a. a }
  effect_keeps unknown t = record { same_lengths = refl; session = good; attach = λ a. a }

pub keeps : (c : Core) (p : Packet) → session_good (lengths c) c.session ≡ true → Keeps c (handle c p).core
unfolding handle carried_out failed
keeps c (dropped w) good = record { same_lengths = refl; session = good; attach = λ a. a }
keeps c (read p) good =
    handle_cases c p (λ x. Keeps c x.core) (λ _ _. record { same_lengths = refl; session = good; attach = λ a. a })
    (effect_keeps c p good (kind (command p)))

-- what refusal 5 asks of the session and the attach word
pub record Sound (c : Core) : Type 0 where
  pub session : session_good (lengths c) c.session ≡ true
  pub attach : attach_good c.attach ≡ true

pub sound-after : (c : Core) (p : Packet) → Sound c → Sound (handle c p).core
sound-after c p s =
    let k = keeps c p s.session in
    record { session = k.session; attach = k.attach s.attach }
