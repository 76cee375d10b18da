-- The parts of a packet make the packet.
use mathlib.Core.Path.{◌≡◌, refl}
use mathlib.Core.List.{List, [], ◌++◌}
use Prim.Native.Nat.{ℕ}
use Rattle.fields.specs.Words.{bytes_of}
use Rattle.fields.specs.Header.{header_of}
use Rattle.esp_begin.specs.declared.Begin.{Begin}
use Rattle.esp_commands.specs.Numbers.{flash_begin_command}
use Rattle.esp_requests.specs.Requests.{request, begin_packet}

-- FLASH_BEGIN: a header, and its four words
pub begin-whole : (g : Begin) {head words : List ℕ} → head ≡ header_of 0 flash_begin_command 16 0
    → words ≡ bytes_of g.size ++ (bytes_of g.count ++ (bytes_of g.block ++ bytes_of g.offset))
    → head ++ (words ++ []) ≡ begin_packet g
unfolding request begin_packet
begin-whole g h w = rw (h, w) refl
