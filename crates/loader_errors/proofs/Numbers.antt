-- The error of a packet, by its command.
use Prim.Native.Nat.{ℕ}
use mathlib.Core.Path.{◌≡◌, sym}
use mathlib.Core.List.{List}
use native.Mathlib.Omega.{arith}
use borrow.Author.Tests.{ne_eqb}
use Rattle.lists.specs.Checks.{first}
use Rattle.esp_commands.specs.Header.{command}
use Rattle.esp_commands.specs.Names.{command_number}
use Rattle.esp_commands.specs.declared.Command.{Command}
use Rattle.esp_commands.specs.declared.Command.TheVariants.{FlashBegin, FlashData, FlashEnd, MemBegin, MemEnd, MemData, Sync, WriteReg, ReadReg, SpiAttach, SpiFlashMd5}
use Rattle.esp_begin.specs.declared.Lengths.{Lengths}
use Rattle.loader_errors.specs.Codes.{error_byte}
use Rattle.loader_errors.specs.declared.CommandError.{CommandError}
use Rattle.loader_errors.specs.declared.CommandError.TheVariants.{UnknownCommand, WrongSize, NoSession, WrongBlockSize, BadParameter, EqualPins, AllAccepted, OutOfSequence, WrongChecksum, BadPadding, BlocksMissing}
use Rattle.loader_errors.specs.Numbers.{unknown_command}
use Rattle.loader_errors.specs.Errors.{kind, unknown, checks, error_of}
use Rattle.loader_sessions.specs.declared.Session.{Session}

-- the number that a packet's command was named from
pub number-is : (v d : Command) (n : ℕ) → command_number d ≡ n → d ≡ v → n ≡ command_number v
number-is v d n b i = rw i at (sym b)

pub error-at :
    (l : Lengths) (s : Session) (p : List ℕ) (v d : Command) (c e : ℕ) → c ≡ command p → command_number d ≡ c → d ≡ v
    → e ≡ first (checks l s (kind (command_number v)) p) → e ≡ error_of l s p
unfolding error_of
error-at l s p v d c e a b i h = rw (← a, ← b, i) h

-- a number that is no command's
pub kind-none : (c : ℕ) → ((d : Command) → command_number d ≡ c → ⊥) → kind c ≡ unknown
unfolding kind
kind-none c h =
    rw (
      ne_eqb c 0x02 (λ e. h FlashBegin (sym e)),
      ne_eqb c 0x03 (λ e. h FlashData (sym e)),
      ne_eqb c 0x04 (λ e. h FlashEnd (sym e)),
      ne_eqb c 0x05 (λ e. h MemBegin (sym e)),
      ne_eqb c 0x06 (λ e. h MemEnd (sym e)),
      ne_eqb c 0x07 (λ e. h MemData (sym e)),
      ne_eqb c 0x08 (λ e. h Sync (sym e)),
      ne_eqb c 0x09 (λ e. h WriteReg (sym e)),
      ne_eqb c 0x0A (λ e. h ReadReg (sym e)),
      ne_eqb c 0x0D (λ e. h SpiAttach (sym e)),
      ne_eqb c 0x13 (λ e. h SpiFlashMd5 (sym e)),
    )

-- a command that is none of them
pub error-none : (l : Lengths) (s : Session) (p : List ℕ) (c : ℕ) → c ≡ command p → kind c ≡ unknown → error_of l s p ≡ unknown_command
unfolding error_of checks first
error-none l s p c a k = rw (← a, k)

-- no error has the byte of success
pub error-nonzero : (e : CommandError) → error_byte e ≡ 0 → ⊥
error-nonzero UnknownCommand h = omega arith
error-nonzero WrongSize h = omega arith
error-nonzero NoSession h = omega arith
error-nonzero WrongBlockSize h = omega arith
error-nonzero BadParameter h = omega arith
error-nonzero EqualPins h = omega arith
error-nonzero AllAccepted h = omega arith
error-nonzero OutOfSequence h = omega arith
error-nonzero WrongChecksum h = omega arith
error-nonzero BadPadding h = omega arith
error-nonzero BlocksMissing h = omega arith
