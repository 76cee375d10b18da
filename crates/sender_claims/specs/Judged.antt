-- "15 where the BEGIN, judged with the image's whole length, would be refused": by the loader's own table of errors.
use Rattle.std.specs.Prelude.{◌≡◌, true, cond, ℕ, nat_eq}
use Rattle.esp_begin.specs.declared.Lengths.{Lengths}
use Rattle.loader_sessions.specs.declared.Session.{Session}
use Rattle.loader_errors.specs.Numbers.{bad_parameter}
use Rattle.loader_errors.specs.Errors.{error_of}
use Rattle.esp_begin.specs.Flash.{flash_length}
use Rattle.esp_requests.specs.Requests.{begin_packet}
use Rattle.sender.specs.Load.{announces, InWords}
use Rattle.sender.specs.Sending.{load_refusal}

-- A loader with a flash that refusal 3 lets pass, whatever session it has open: it takes the BEGIN of every load that the sender takes for this flash, and gives 0xC5 to that of every other whose numbers are words. Where one is not, no BEGIN can say it, and the sender refuses too (sender::NumbersAreWords).
abbrev pub JudgedAsLoader : Type 0
JudgedAsLoader =
    (size offset block : ℕ) (l : Lengths) (s : Session) → flash_length l.flash ≡ true → InWords (announces size offset block)
    → error_of l s (begin_packet (announces size offset block)) ≡ cond (nat_eq (load_refusal size offset block l.flash) 0) 0 bad_parameter
