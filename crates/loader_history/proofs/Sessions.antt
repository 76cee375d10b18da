-- What a handled packet does to the session and to flash, by the grammar's tests of it.
use mathlib.Core.Path.{◌≡◌, refl, sym, ◌∙◌}
use mathlib.Core.List.{List}
use mathlib.Core.Bool.{true, false, ◌&&◌}
use Prim.Native.Nat.{ℕ, ◌+◌, ◌<◌}
use borrow.Author.Tests.{eqb-true}
use lib.Dec.{eqb}
use Rattle.lists.proofs.Tests.{absurd_test, both, neither, Passed}
use Rattle.slip_packets.specs.Packets.{Packet, dropped, read}
use Rattle.esp_commands.specs.Numbers.{flash_data_command, flash_end_command}
use Rattle.esp_commands.specs.Header.{command, shaped}
use Rattle.esp_parameters.specs.Parameters.{flash_end_rule}
use Rattle.esp_begin.specs.declared.Begin.{Begin}
use Rattle.loader_sessions.specs.Session.{flash_open, memory_open, announced, accepted, advanced}
use Rattle.loader_errors.specs.Errors.{Kind, kind, flash_begin, flash_data, flash_end, memory_begin, memory_end, memory_data, sync, write_reg, read_reg, spi_attach, flash_digest, unknown, plain_checks, end_checks, checks}
use Rattle.loader_sessions.specs.declared.Session.{Session}
use Rattle.loader_sessions.specs.declared.Session.TheVariants.{Closed, Flash, Memory}
use Rattle.loader_errors.proofs.Checks.{Is, is_flash_begin, is_flash_data, is_flash_end, is_memory_begin, is_memory_end, is_memory_data, is_sync, is_write_reg, is_read_reg, is_spi_attach, is_flash_digest, is_unknown, is, DataPassed, data_passed, data_passes, EndPassed, end_passed, end-passes}
use Rattle.loader_blocks.specs.Flash.{flash_block}
use Rattle.loader_effects.specs.Core.{Core, lengths}
use Rattle.loader_effects.specs.Effects.{effect}
use Rattle.loader_effects.specs.Handle.{carried_out, failed, handle}
use Rattle.loader_effects.proofs.Handled.{Passes, good_handled, handle_cases}
use Rattle.grammar.specs.Grammar.{flash_begin as good_flash_begin, memory_begin as good_memory_begin, any_begin, good_block, flash_end as good_flash_end, begins, carries}
use Rattle.loader_history.specs.History.{end_succeeds}
use Rattle.grammar.proofs.Goodness.{flash_begin_parts, flash_begin-whole, memory_begin_parts, memory_begin-whole, end_parts, end_whole, block_parts, block-whole}

-- a reply that counts as the success of FLASH_END
success : (c e : ℕ) → (eqb c flash_end_command && eqb e 0) ≡ true → (c ≡ flash_end_command) × (e ≡ 0)
success c e h =
    let a = both (eqb c flash_end_command) (eqb e 0) h in
    (eqb-true c flash_end_command a.0, eqb-true e 0 a.1)

module _ (c : Core) where
  -- a good flash BEGIN opens its session and writes no flash
  pub began : (p : Packet) → good_flash_begin (lengths c) p ≡ true
      → ((handle c p).core.session ≡ Flash (begins p) 0) × ((handle c p).core.flash ≡ c.flash)
  unfolding good_flash_begin begins kind checks plain_checks carried_out effect
  began (dropped w) h = absurd_test h
  began (read p) h =
      let b = flash_begin_parts (lengths c) p h in
      rw (good_handled c p (rw b.numbered (b.is_shaped, (b.is_ruled, tt)))) (rw b.numbered (refl, refl))

  -- a good memory BEGIN leaves no flash session
  pub memory_began : (p : Packet) → good_memory_begin (lengths c) p ≡ true → flash_open (handle c p).core.session ≡ false
  unfolding good_memory_begin kind checks plain_checks carried_out effect flash_open
  memory_began (dropped w) h = absurd_test h
  memory_began (read p) h =
      let b = memory_begin_parts (lengths c) p h in
      rw (good_handled c p (rw b.numbered (b.is_shaped, (b.is_ruled, tt))), b.numbered)

  -- the next good block is accepted and written
  pub accepts : (g : Begin) (k : ℕ) (p : Packet) → c.session ≡ Flash g k → k < g.count → good_block g k p ≡ true
      → ((handle c p).core.session ≡ Flash g (k + 1)) × ((handle c p).core.flash ≡ flash_block g k (carries p) c.flash)
  unfolding good_block carries kind checks flash_open announced accepted carried_out effect advanced
  accepts g k (dropped w) e lt h = absurd_test h
  accepts g k (read p) e lt h =
      let b = block_parts g k p h in
      let d : DataPassed true (Flash g k) p =
      record {
        is_shaped = b.is_shaped;
        is_open = refl;
        sized-block = b.sized-block;
        zeros = b.zeros;
        more = lt;
        in_sequence = b.in_sequence;
        sum = b.sum;
        padded = b.padded;
      } in
      rw (good_handled c p (rw (b.numbered, e) (data_passes d))) (rw (b.numbered, e) (refl, refl))

  -- an END after the last block is answered with success, closes the session and writes no flash
  pub ends : (g : Begin) (k : ℕ) (p : Packet) → c.session ≡ Flash g k → k ≡ g.count → good_flash_end p ≡ true
      → (end_succeeds (handle c p).reply ≡ true) × ((handle c p).core.session ≡ Closed) × ((handle c p).core.flash ≡ c.flash)
  unfolding good_flash_end kind checks flash_open announced accepted carried_out effect end_succeeds
  ends g k (dropped w) e m h = absurd_test h
  ends g k (read p) e m h =
      let b = end_parts p h in
      let d : EndPassed (shaped 4 p) true (flash_end_rule p) (Flash g k) =
      record { is_shaped = b.is_shaped; is_open = refl; is_ruled = b.is_ruled; all = m } in
      rw (good_handled c p (rw (b.numbered, e) (end-passes d))) (rw b.numbered (refl, refl, refl))

  -- a flash session of which every block is accepted, and an END
  pub record Ended (p : Packet) : Type 0 where
    pub begin : Begin
    pub blocks : ℕ
    pub session : c.session ≡ Flash begin blocks
    pub all : blocks ≡ begin.count
    pub end : good_flash_end p ≡ true

  ended-session : (p : List ℕ) (s : Session) → c.session ≡ s → command p ≡ flash_end_command → Passes c p → Ended (read p)
  unfolding kind checks end_checks flash_open announced accepted good_flash_end
  ended-session p s e m t = go s e (rw (e, m) at t)
    where
      go : (s : Session) → c.session ≡ s → Passed (checks (lengths c) s flash_end p) → Ended (read p)
      go Closed e u = absurd_test (end_passed _ _ _ Closed u).is_open
      go (Memory g k) e u = absurd_test (end_passed _ _ _ (Memory g k) u).is_open
      go (Flash g k) e u =
          let d = end_passed _ _ _ (Flash g k) u in
          record {
            begin = g;
            blocks = k;
            session = e;
            all = d.all;
            end = end_whole p (record { numbered = m; is_shaped = d.is_shaped; is_ruled = d.is_ruled });
          }

  -- and only such an END is answered with success
  pub ended : (p : Packet) → end_succeeds (handle c p).reply ≡ true → Ended p
  unfolding handle carried_out failed end_succeeds
  ended (dropped w) h = absurd_test h
  ended (read p) h =
      handle_cases c p (λ x. end_succeeds x.reply ≡ true → Ended (read p))
      (λ e ne h. absurd (ne (success (command p) e h).1))
      (λ t h. ended-session p c.session refl (success (command p) 0 h).0 t)
      h

-- past the checks of a data command, in a flash session: a good block of it
passed_block : (g : Begin) (k : ℕ) (p : List ℕ) → command p ≡ flash_data_command → DataPassed true (Flash g k) p → good_block g k (read p) ≡ true
unfolding announced accepted
passed_block g k p e d =
    block-whole g k p (record {
      numbered = e;
      is_shaped = d.is_shaped;
      sized-block = d.sized-block;
      zeros = d.zeros;
      in_sequence = d.in_sequence;
      sum = d.sum;
      padded = d.padded;
    })

kept-kind : (c : Core) (g : Begin) (k : ℕ) (p : List ℕ) (d : Kind) → c.session ≡ Flash g k → Is (command p) d
    → any_begin (lengths c) (read p) ≡ false
    → (k < g.count → good_block g k (read p) ≡ false) → (k ≡ g.count → good_flash_end (read p) ≡ false)
    → Passed (checks (lengths c) (Flash g k) d p)
    → ((effect d c p).core.session ≡ Flash g k) × ((effect d c p).core.flash ≡ c.flash)
unfolding any_begin checks plain_checks flash_open memory_open announced accepted effect
kept-kind c g k p flash_begin s (is_flash_begin e) nb ng ne t =
    let n = neither (good_flash_begin (lengths c) (read p)) (good_memory_begin (lengths c) (read p)) nb in
    absurd_test (sym n.0 ∙ flash_begin-whole (lengths c) p (record { numbered = e; is_shaped = t.0; is_ruled = t.1.0 }))
kept-kind c g k p flash_data s (is_flash_data e) nb ng ne t =
    let d = data_passed true (Flash g k) p t in
    absurd_test (sym (ng d.more) ∙ passed_block g k p e d)
kept-kind c g k p flash_end s (is_flash_end e) nb ng ne t =
    let d = end_passed _ true _ (Flash g k) t in
    absurd_test (sym (ne d.all) ∙ end_whole p (record { numbered = e; is_shaped = d.is_shaped; is_ruled = d.is_ruled }))
kept-kind c g k p memory_begin s (is_memory_begin e) nb ng ne t =
    let n = neither (good_flash_begin (lengths c) (read p)) (good_memory_begin (lengths c) (read p)) nb in
    absurd_test (sym n.1 ∙ memory_begin-whole (lengths c) p (record { numbered = e; is_shaped = t.0; is_ruled = t.1.0 }))
kept-kind c g k p memory_end s is_memory_end nb ng ne t = absurd_test (end_passed _ false _ (Flash g k) t).is_open
kept-kind c g k p memory_data s is_memory_data nb ng ne t = absurd_test (data_passed false (Flash g k) p t).is_open
kept-kind c g k p sync s is_sync nb ng ne t = (s, refl)
kept-kind c g k p write_reg s is_write_reg nb ng ne t = (s, refl)
kept-kind c g k p read_reg s (is_read_reg _) nb ng ne t = (s, refl)
kept-kind c g k p spi_attach s is_spi_attach nb ng ne t = (s, refl)
kept-kind c g k p flash_digest s (is_flash_digest _) nb ng ne t = (s, refl)
kept-kind c g k p unknown s is_unknown nb ng ne t = absurd_test t.0

-- with a flash session open, what is neither a good BEGIN, nor its next block, nor its END changes neither session nor flash
pub kept : (c : Core) (g : Begin) (k : ℕ) (p : Packet) → c.session ≡ Flash g k → any_begin (lengths c) p ≡ false
    → (k < g.count → good_block g k p ≡ false) → (k ≡ g.count → good_flash_end p ≡ false)
    → ((handle c p).core.session ≡ Flash g k) × ((handle c p).core.flash ≡ c.flash)
unfolding handle carried_out failed
kept c g k (dropped w) e nb ng ne = (e, refl)
kept c g k (read p) e nb ng ne = handle_cases c p (λ x. (x.core.session ≡ Flash g k) × (x.core.flash ≡ c.flash)) (λ _ _. (e, refl))
    (λ t. kept-kind c g k p (kind (command p)) e (is (command p)) nb ng ne (rw e at t))

advanced_open : (s : Session) → flash_open (advanced s) ≡ flash_open s
unfolding advanced flash_open
advanced_open Closed = refl
advanced_open (Flash g k) = refl
advanced_open (Memory g k) = refl

unopened_kind : (c : Core) (p : List ℕ) (d : Kind) → Is (command p) d → flash_open c.session ≡ false
    → good_flash_begin (lengths c) (read p) ≡ false
    → Passed (checks (lengths c) c.session d p) → flash_open (effect d c p).core.session ≡ false
unfolding checks plain_checks effect
unopened_kind c p flash_begin (is_flash_begin e) o nb t =
    absurd_test (sym nb ∙ flash_begin-whole (lengths c) p (record { numbered = e; is_shaped = t.0; is_ruled = t.1.0 }))
unopened_kind c p flash_data (is_flash_data e) o nb t = absurd_test (sym o ∙ (data_passed (flash_open c.session) c.session p t).is_open)
unopened_kind c p flash_end (is_flash_end e) o nb t = absurd_test (sym o ∙ (end_passed _ (flash_open c.session) _ c.session t).is_open)
unopened_kind c p memory_begin (is_memory_begin e) o nb t = unfold flash_open in refl
unopened_kind c p memory_end is_memory_end o nb t = unfold flash_open in refl
unopened_kind c p memory_data is_memory_data o nb t = advanced_open c.session ∙ o
unopened_kind c p sync is_sync o nb t = o
unopened_kind c p write_reg is_write_reg o nb t = o
unopened_kind c p read_reg (is_read_reg _) o nb t = o
unopened_kind c p spi_attach is_spi_attach o nb t = o
unopened_kind c p flash_digest (is_flash_digest _) o nb t = o
unopened_kind c p unknown is_unknown o nb t = o

-- with none open, only a good flash BEGIN opens one
pub unopened : (c : Core) (p : Packet) → flash_open c.session ≡ false → good_flash_begin (lengths c) p ≡ false
    → flash_open (handle c p).core.session ≡ false
unfolding handle carried_out failed
unopened c (dropped w) o nb = o
unopened c (read p) o nb = handle_cases c p (λ x. flash_open x.core.session ≡ false) (λ _ _. o)
    (λ t. unopened_kind c p (kind (command p)) (is (command p)) o nb t)
