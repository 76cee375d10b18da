-- What END tells the caller, in document 01's numbers.
use Rattle.std.specs.Prelude.{ℕ}
use Rattle.loader_notes.specs.declared.Note.{Note}
use Rattle.loader_notes.specs.declared.Note.TheVariants.{Nothing, Reboot, Stay, Jump}

-- no order, END's word alone, or its word with the entry to jump to
pub data Order : Type 0 where
  no_order : Order
  end_word : (word : ℕ) → Order
  end_jump : (word entry : ℕ) → Order

-- "one word, 0 reboot or 1 stay, told to the caller"; "0 jumps, 1 stays"
abbrev pub noted : Note → Order
noted Nothing = no_order
noted Reboot = end_word 0
noted Stay = end_word 1
noted (Jump entry) = end_jump 0 entry
