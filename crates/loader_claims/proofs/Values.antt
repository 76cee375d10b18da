-- The value of an answer is 0 but for a good READ_REG, and only a good SPI_FLASH_MD5 has a body before the status bytes.
use mathlib.Core.Path.{◌≡◌, refl, sym, ◌∙◌}
use mathlib.Core.List.{List, []}
use mathlib.Core.Bool.{Bool, true, false, ◌&&◌}
use Prim.Native.Nat.{ℕ}
use borrow.Author.Tests.{eqb-true, eq-eqb}
use lib.Dec.{eqb}
use lib.ListN.{length}
use Rattle.lists.proofs.Tests.{absurd_test, both}
use Rattle.digest.proofs.Length.{md5-length}
use Rattle.loader_answers.specs.Answer.{body_bytes}
use Rattle.slip_packets.specs.Packets.{Packet, dropped, read}
use Rattle.esp_commands.specs.Numbers.{read_reg_command, spi_flash_md5_command}
use Rattle.esp_commands.specs.Header.{command}
use Rattle.loader_errors.specs.Errors.{Kind, kind}
use Rattle.loader_errors.proofs.Checks.{Is, is_flash_begin, is_flash_data, is_flash_end, is_memory_begin, is_memory_end, is_memory_data, is_sync, is_write_reg, is_read_reg, is_spi_attach, is_flash_digest, is_unknown, is}
use Rattle.loader_effects.specs.Core.{Core}
use Rattle.loader_effects.specs.Effects.{effect}
use Rattle.loader_effects.specs.Handle.{Reply, nothing, replied, carried_out, failed, handle}
use Rattle.loader_effects.proofs.Handled.{handle_cases}

abbrev pub Valued : Reply → Type 0
Valued (nothing w) = Unit {0}
Valued (replied c e v b note) =
    ((eqb c read_reg_command && eqb e 0) ≡ false → v ≡ 0)
    × ((eqb c spi_flash_md5_command && eqb e 0) ≡ true → length (body_bytes b) ≡ 16)
    × ((eqb c spi_flash_md5_command && eqb e 0) ≡ false → body_bytes b ≡ [])

module _ (c : Core) (p : List ℕ) where
  by_kind : (n : ℕ) (k : Kind) → Is n k
      → (eqb n read_reg_command ≡ false → (effect k c p).value ≡ 0) × (eqb n spi_flash_md5_command ≡ false → body_bytes (effect k c p).body ≡ [])
  unfolding effect
  by_kind n _ (is_flash_begin _) = ((λ _. refl), (λ _. refl))
  by_kind n _ (is_flash_data _) = ((λ _. refl), (λ _. refl))
  by_kind n _ (is_flash_end _) = ((λ _. refl), (λ _. refl))
  by_kind n _ (is_memory_begin _) = ((λ _. refl), (λ _. refl))
  by_kind n _ is_memory_end = ((λ _. refl), (λ _. refl))
  by_kind n _ is_memory_data = ((λ _. refl), (λ _. refl))
  by_kind n _ is_sync = ((λ _. refl), (λ _. refl))
  by_kind n _ is_write_reg = ((λ _. refl), (λ _. refl))
  by_kind n _ (is_read_reg e) = ((λ h. absurd_test (sym h ∙ eq-eqb n read_reg_command e)), (λ _. refl))
  by_kind n _ is_spi_attach = ((λ _. refl), (λ _. refl))
  by_kind n _ (is_flash_digest e) = ((λ _. refl), (λ h. absurd_test (sym h ∙ eq-eqb n spi_flash_md5_command e)))
  by_kind n _ is_unknown = ((λ _. refl), (λ _. refl))

  digest_body : (n : ℕ) → eqb n spi_flash_md5_command ≡ true → length (body_bytes (effect (kind n) c p).body) ≡ 16
  unfolding kind effect
  digest_body n h = rw (eqb-true n spi_flash_md5_command h) (md5-length _)

good-test : (t : Bool) → (t && true) ≡ false → t ≡ false
good-test true h = h
good-test false h = refl

pub valued : (c : Core) (p : Packet) → Valued (handle c p).reply
unfolding handle carried_out failed
valued c (dropped w) = tt
valued c (read p) =
    let n = command p in
    let k = by_kind c p n (kind n) (is n) in
    handle_cases c p (λ x. Valued x.reply)
    (λ e bad. ((λ _. refl), (λ h. absurd (bad (eqb-true e 0 (both (eqb n spi_flash_md5_command) (eqb e 0) h).1))), (λ _. refl)))
    (λ _. ((λ h. k.0 (good-test (eqb n read_reg_command) h)), (λ h. digest_body c p n (both (eqb n spi_flash_md5_command) true h).0), (λ h. k.1 (good-test (eqb n spi_flash_md5_command) h))))
