-- What a good command does, a row for each: what it leaves, the value of its answer and what stands there before the status bytes, what the caller is told.
use Rattle.std.specs.Prelude.{List, cond, ℕ, nat_eq, take, drop}
use Rattle.fields.specs.Words.{word}
use Rattle.fields.specs.Places.{first_word, second_word}
use Rattle.digest.specs.Digest.{md5_of}
use Rattle.loader_answers.specs.Answer.{Body, plain, with_digest}
use Rattle.esp_begin.specs.Begin.{begin_of}
use Rattle.esp_commands.specs.Block.{payload}
use Rattle.loader_registers.specs.Registers.{register_read, register_written}
use Rattle.loader_sessions.specs.Session.{announced, accepted, advanced}
use Rattle.loader_errors.specs.Errors.{Kind, flash_begin, flash_data, flash_end, memory_begin, memory_end, memory_data, sync, write_reg, read_reg, spi_attach, flash_digest, unknown}
use Rattle.loader_sessions.specs.declared.Session.TheVariants.{Closed, Flash, Memory}
use Rattle.loader_blocks.specs.Flash.{flash_block}
use Rattle.loader_blocks.specs.Memory.{words_block}
use Rattle.loader_effects.specs.Core.{Core, with_session, with_attach, with_flash, with_words}
use Rattle.loader_notes.specs.Notes.{Order, no_order, end_word, end_jump}

pub record Effect : Type 0 where
  pub core : Core
  pub value : ℕ
  pub body : Body
  pub order : Order

-- "value (4 bytes, zero but for a good READ_REG)": a command that tells nothing
abbrev pub leaves : Core → Effect
leaves c = record { core = c; value = 0; body = plain; order = no_order }

abbrev pub reads : Core → ℕ → Effect
reads c v = record { core = c; value = v; body = plain; order = no_order }

abbrev pub digests : Core → List ℕ → Effect
digests c d = record { core = c; value = 0; body = with_digest d; order = no_order }

abbrev pub tells : Core → Order → Effect
tells c order = record { core = c; value = 0; body = plain; order = order }

-- the open session's next block is accepted
abbrev pub accepts : Core → Core
accepts c = with_session c (advanced c.session)

unfoldable pub effect : Kind → Core → List ℕ → Effect
-- "It opens a session with no blocks accepted and drops any open one. It writes no flash."
effect flash_begin c p = leaves (with_session c (Flash (begin_of p) 0))
effect memory_begin c p = leaves (with_session c (Memory (begin_of p) 0))
-- a good block is accepted and written
effect flash_data c p =
    leaves (with_flash (accepts c) (flash_block (announced c.session) (accepted c.session) (payload p) c.flash))
effect memory_data c p =
    leaves (with_words (accepts c) (words_block (announced c.session) (accepted c.session) (payload p) c.words))
-- "one word, 0 reboot or 1 stay, told to the caller. Closes the session."
effect flash_end c p = tells (with_session c Closed) (end_word (word p first_word))
-- "0 jumps, 1 stays": where it stays, the entry is not told
effect memory_end c p =
    tells (with_session c Closed)
    (cond (nat_eq (word p first_word) 0) (end_jump (word p first_word) (word p second_word)) (end_word (word p first_word)))
effect sync c p = leaves c
-- the word under the address is merged with the value under the mask, or read
effect write_reg c p = leaves (with_words c (register_written p c.words))
effect read_reg c p = reads c (register_read p c.words)
-- "Accepted words are kept in the record, 0 when fresh."
effect spi_attach c p = leaves (with_attach c (word p first_word))
-- "Flash is read where it stands, any open session included and unchanged": the digest of size bytes from the address on
effect flash_digest c p = digests c (md5_of (take (word p second_word) (drop (word p first_word) c.flash)))
effect unknown c p = leaves c
