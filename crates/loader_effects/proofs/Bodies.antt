-- What stands before the status bytes is no longer than a digest, so the longest answer buffer holds every answer.
use mathlib.Core.List.{List}
use Prim.Native.Nat.{ℕ, ◌≤◌}
use native.Mathlib.Omega.{arith}
use lib.ListN.{length}
use Rattle.digest.specs.Digest.{md5_of}
use Rattle.digest.proofs.Length.{md5-length}
use Rattle.loader_answers.specs.Answer.{body_bytes}
use Rattle.slip_packets.specs.Packets.{Packet, dropped, read}
use Rattle.esp_commands.specs.Header.{command}
use Rattle.loader_errors.specs.Errors.{Kind, kind, flash_begin, flash_data, flash_end, memory_begin, memory_end, memory_data, sync, write_reg, read_reg, spi_attach, flash_digest, unknown}
use Rattle.loader_effects.specs.Core.{Core}
use Rattle.loader_effects.specs.Effects.{effect}
use Rattle.loader_effects.specs.Handle.{Reply, nothing, replied, carried_out, failed, handle}
use Rattle.loader_effects.proofs.Handled.{handle_cases}

abbrev pub Short : Reply → Type 0
Short (nothing w) = Unit {0}
Short (replied c e v b order) = length (body_bytes b) ≤ 16

digest-most : (m : List ℕ) → length (md5_of m) ≤ 16
digest-most m = omega (arith, md5-length m)

by_kind : (k : Kind) (c : Core) (p : List ℕ) → length (body_bytes (effect k c p).body) ≤ 16
unfolding effect
by_kind flash_begin c p = omega arith
by_kind flash_data c p = omega arith
by_kind flash_end c p = omega arith
by_kind memory_begin c p = omega arith
by_kind memory_end c p = omega arith
by_kind memory_data c p = omega arith
by_kind sync c p = omega arith
by_kind write_reg c p = omega arith
by_kind read_reg c p = omega arith
by_kind spi_attach c p = omega arith
by_kind flash_digest c p = digest-most _
by_kind unknown c p = omega arith

pub short : (c : Core) (p : Packet) → Short (handle c p).reply
unfolding handle carried_out failed
short c (dropped w) = tt
short c (read p) = handle_cases c p (λ x. Short x.reply) (λ _ _. omega arith) (λ _. by_kind (kind (command p)) c p)
