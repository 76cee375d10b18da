-- What the tables of checks say where every check passes.
use mathlib.Core.Path.{◌≡◌, refl}
use mathlib.Core.List.{List}
use mathlib.Core.Bool.{Bool, true, false, cond}
use Prim.Native.Nat.{ℕ, ◌<◌}
use borrow.Author.Tests.{ltb-true, eqb-true, lt-ltb, eq-eqb}
use lib.Dec.{eqb}
use Rattle.lists.proofs.Tests.{Passed, numbered}
use Rattle.fields.specs.Words.{word}
use Rattle.esp_commands.specs.Header.{data_shaped}
use Rattle.esp_begin.specs.declared.Lengths.{Lengths}
use Rattle.esp_commands.specs.Block.{zero_words, sum_good, padding_good}
use Rattle.loader_sessions.specs.Session.{announced, accepted}
use Rattle.loader_errors.specs.Errors.{Kind, kind, flash_begin, flash_data, flash_end, memory_begin, memory_end, memory_data, sync, write_reg, read_reg, spi_attach, flash_digest, unknown, plain_checks, attach_checks, end_checks, data_checks, checks}
use Rattle.loader_sessions.specs.declared.Session.{Session}

-- a command's kind, with the number of those that the grammar and the answers speak of
pub data Is (c : ℕ) : Kind → Type 0 where
  is_flash_begin : c ≡ 0x02 → Is c flash_begin
  is_flash_data : c ≡ 0x03 → Is c flash_data
  is_flash_end : c ≡ 0x04 → Is c flash_end
  is_memory_begin : c ≡ 0x05 → Is c memory_begin
  is_memory_end : Is c memory_end
  is_memory_data : Is c memory_data
  is_sync : Is c sync
  is_write_reg : Is c write_reg
  is_read_reg : c ≡ 0x0A → Is c read_reg
  is_spi_attach : Is c spi_attach
  is_flash_digest : c ≡ 0x13 → Is c flash_digest
  is_unknown : Is c unknown

pub is : (c : ℕ) → Is c (kind c)
unfolding kind
is c = go _ _ _ _ (eqb c 6) (eqb c 7) (eqb c 8) (eqb c 9) _ (eqb c 13) _ refl refl refl refl refl refl
  where
    go : (a b d e f g h i j k l : Bool) → eqb c 2 ≡ a → eqb c 3 ≡ b → eqb c 4 ≡ d → eqb c 5 ≡ e → eqb c 10 ≡ j → eqb c 19 ≡ l
        → Is c
        (cond a flash_begin (cond b flash_data (cond d flash_end (cond e memory_begin (cond f memory_end (cond g memory_data
        (cond h sync (cond i write_reg (cond j read_reg (cond k spi_attach (cond l flash_digest unknown)))))))))))
    go true b d e f g h i j k l p q r s t u = is_flash_begin (eqb-true c 2 p)
    go false true d e f g h i j k l p q r s t u = is_flash_data (eqb-true c 3 q)
    go false false true e f g h i j k l p q r s t u = is_flash_end (eqb-true c 4 r)
    go false false false true f g h i j k l p q r s t u = is_memory_begin (eqb-true c 5 s)
    go false false false false true g h i j k l p q r s t u = is_memory_end
    go false false false false false true h i j k l p q r s t u = is_memory_data
    go false false false false false false true i j k l p q r s t u = is_sync
    go false false false false false false false true j k l p q r s t u = is_write_reg
    go false false false false false false false false true k l p q r s t u = is_read_reg (eqb-true c 10 t)
    go false false false false false false false false false true l p q r s t u = is_spi_attach
    go false false false false false false false false false false true p q r s t u = is_flash_digest (eqb-true c 19 u)
    go false false false false false false false false false false false p q r s t u = is_unknown

pub all-numbered : (l : Lengths) (s : Session) (k : Kind) (p : List ℕ) → numbered (checks l s k p) ≡ true
unfolding checks plain_checks attach_checks end_checks data_checks
all-numbered l s flash_begin p = refl
all-numbered l s flash_data p = refl
all-numbered l s flash_end p = refl
all-numbered l s memory_begin p = refl
all-numbered l s memory_end p = refl
all-numbered l s memory_data p = refl
all-numbered l s sync p = refl
all-numbered l s write_reg p = refl
all-numbered l s read_reg p = refl
all-numbered l s spi_attach p = refl
all-numbered l s flash_digest p = refl
all-numbered l s unknown p = refl

-- a data command past every check
pub record DataPassed (isOpen : Bool) (s : Session) (p : List ℕ) : Type 0 where
  pub is_shaped : data_shaped p ≡ true
  pub is_open : isOpen ≡ true
  pub sized-block : eqb (word p 8) (announced s).block ≡ true
  pub zeros : zero_words p ≡ true
  pub more : accepted s < (announced s).count
  pub in_sequence : eqb (word p 12) (accepted s) ≡ true
  pub sum : sum_good p ≡ true
  pub padded : padding_good (announced s) (accepted s) p ≡ true

pub data_passed : (isOpen : Bool) (s : Session) (p : List ℕ) → Passed (data_checks isOpen s p) → DataPassed isOpen s p
unfolding data_checks
data_passed isOpen s p t =
    record {
      is_shaped = t.0;
      is_open = t.1.0;
      sized-block = t.1.1.0;
      zeros = t.1.1.1.0;
      more = ltb-true _ _ t.1.1.1.1.0;
      in_sequence = t.1.1.1.1.1.0;
      sum = t.1.1.1.1.1.1.0;
      padded = t.1.1.1.1.1.1.1.0;
    }

pub data_passes : {isOpen : Bool} {s : Session} {p : List ℕ} → DataPassed isOpen s p → Passed (data_checks isOpen s p)
unfolding data_checks
data_passes d =
    (d.is_shaped, (d.is_open, (d.sized-block, (d.zeros, (lt-ltb _ _ d.more, (d.in_sequence, (d.sum, (d.padded, tt))))))))

-- an END command past every check
pub record EndPassed (isShaped isOpen isRuled : Bool) (s : Session) : Type 0 where
  pub is_shaped : isShaped ≡ true
  pub is_open : isOpen ≡ true
  pub is_ruled : isRuled ≡ true
  pub all : accepted s ≡ (announced s).count

pub end_passed : (isShaped isOpen isRuled : Bool) (s : Session) → Passed (end_checks isShaped isOpen isRuled s)
    → EndPassed isShaped isOpen isRuled s
unfolding end_checks
end_passed isShaped isOpen isRuled s t =
    record { is_shaped = t.0; is_open = t.1.0; is_ruled = t.1.1.0; all = eqb-true _ _ t.1.1.1.0 }

pub end-passes : {isShaped isOpen isRuled : Bool} {s : Session} → EndPassed isShaped isOpen isRuled s
    → Passed (end_checks isShaped isOpen isRuled s)
unfolding end_checks
end-passes d = (d.is_shaped, (d.is_open, (d.is_ruled, (eq-eqb _ _ d.all, tt))))
