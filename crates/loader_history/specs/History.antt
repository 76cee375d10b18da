-- Packets handled one after the other, each with what the one before left.
use Rattle.std.specs.Prelude.{List, [], ◌∷◌, Bool, false, ◌&&◌, ℕ, nat_eq, get_or}
use Rattle.slip_packets.specs.Packets.{Packet}
use Rattle.esp_commands.specs.Numbers.{flash_end_command}
use Rattle.slip_unframing.specs.declared.Reason.TheVariants.{TooShort}
use Rattle.loader_sessions.specs.declared.Session.TheVariants.{Closed}
use Rattle.loader_effects.specs.Core.{Core}
use Rattle.loader_effects.specs.Handle.{Reply, nothing, replied, Handled, handle}

unfoldable pub history : Core → List Packet → List Handled
history c [] = []
history c (p ∷ ps) = handle c p ∷ history (handle c p).core ps

-- the handled packet at a place; past the last one, as one of no bytes
unfoldable pub handled_at : List Handled → ℕ → Handled
handled_at hs i =
    get_or hs i (record { reply = nothing TooShort; core = record { session = Closed; attach = 0; flash = []; words = [] } })

-- a packet is answered as FLASH_END, with success
unfoldable pub end_succeeds : Reply → Bool
end_succeeds (nothing w) = false
end_succeeds (replied c e v b order) = nat_eq c flash_end_command && nat_eq e 0
