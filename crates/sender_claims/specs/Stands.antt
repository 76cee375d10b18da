-- "after the END the image stands at its offset as demand 3 says": the four parts of flash that demand 3 names (loader_history::Loaded), with the image itself where that has the blocks' data. Of the sender it takes which loads are refused and the line of a load: definitions, and no code.
use Rattle.std.specs.Prelude.{◌≡◌, List, ℕ, ◌+◌, ◌-◌, length, take, drop, replicate}
use Rattle.lists.specs.Bytes.{IsBytes}
use Rattle.esp_begin.specs.Begin.{round_up}
use Rattle.loader_sessions.specs.declared.Session.TheVariants.{Closed}
use Rattle.loader_act.specs.Told.{Told}
use Rattle.loader_claims.specs.Calls.{Machine}
use Rattle.sender.specs.Sending.{load_refusal}
use Rattle.sender.specs.Line.{load_line}
use Rattle.sender_claims.specs.Fed.{Accepted, LineFed}

-- flash `after`, where an image was put at an offset into flash `before`
pub record Stands (image : List ℕ) (offset : ℕ) (before after : List ℕ) : Type 0 where
  pub same_length : length after ≡ length before
  -- the bytes at the offset are the image
  pub there : take (length image) (drop offset after) ≡ image
  -- "the rest of the last touched sector is 0xFF"
  pub erased :
      take (round_up (length image) - length image) (drop (offset + length image) after)
      ≡ replicate (round_up (length image) - length image) 0xFF
  -- every other byte is as before; an empty image touches none
  pub below : take offset after ≡ take offset before
  pub above : drop (offset + round_up (length image)) after ≡ drop (offset + round_up (length image)) before

-- what is left after the END: flash with the image; words and attach word (0 when fresh) as they were; no session
pub record Loads (image : List ℕ) (offset : ℕ) (flash words : List ℕ) (left : Machine) : Type 0 where
  pub stands : Stands image offset flash left.flash
  pub same_words : left.words ≡ words
  pub same_attach : left.loader.attach ≡ 0
  pub no_session : left.loader.session ≡ Closed

-- For every image, offset, block size and flash that the sender does not refuse, and every way of feeding the load; `flash` is what stood there before the first byte.
abbrev pub ImageStands : Type 0
ImageStands =
    (image : List ℕ) (offset block : ℕ) (buffer flash words : List ℕ) (told : List Told) (left : Machine)
    → IsBytes image → load_refusal (length image) offset block (length flash) ≡ 0 → Accepted buffer words
    → LineFed buffer flash words (load_line image offset block) told left
    → Loads image offset flash words left
