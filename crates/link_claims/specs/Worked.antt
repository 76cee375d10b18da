-- "A probe with a weak battery sent one byte every 200 ms" (document 02, Three), worked: how a link comes to listen, and how it is lost.
use Rattle.std.specs.Prelude.{◌≡◌, List, [], ◌∷◌, ◌++◌, true, ℕ, replicate}
use Rattle.link_state.specs.Opening.{opening}
use Rattle.link_refusals.specs.Refusals.{shortest_buffer}
use Rattle.link_state.specs.declared.Link.{Link}
use Rattle.link_state.specs.declared.Phase.TheVariants.{Open}
use Rattle.link.specs.Answers.{Step}
use Rattle.link_claims.specs.Calls.{Call, pull, byte, step, after}
use Rattle.link_claims.specs.Delivers.{Listening}

-- a buffer just long enough for an answer
unfoldable pub lent : List ℕ
lent = replicate shortest_buffer 0

-- the line is pulled at tick 0, with a baud frame of 115200
unfoldable pub to_open : List Call
to_open = pull 0 lent ∷ byte 0x03 0 lent ∷ byte 0x00 0 lent ∷ byte 0xC2 0 lent ∷ byte 0x01 0 lent ∷ byte 0x00 0 lent ∷ byte 0xC0 0 lent ∷ []

-- a frame of three bytes comes at tick 30, out of dead time
abbrev pub three : ℕ → ℕ → ℕ → List Call
three a b c = byte a 30 lent ∷ byte b 30 lent ∷ byte c 30 lent ∷ []

-- such a link, after a start of RPC
abbrev pub started : ℕ → Link
started edition = after (opening edition).link (to_open ++ three 0x04 0x00 0x04)

-- it listens, with RPC open; of a data frame that then comes a byte every 200 ms the first byte is held, and the second finds the link lost
pub record Weak (edition : ℕ) : Type 0 where
  pub connected : Listening (started edition)
  pub rpc : (started edition).rpc ≡ true
  pub first_byte : let l : Link = (step (started edition) (byte 0x05 230 lent)).link in (l.phase ≡ Open) × (l.held ≡ 1)
  pub second_byte : let s : Step = step (step (started edition) (byte 0x05 230 lent)).link (byte 0x02 430 lent) in (s.lost ≡ true) × (s.link ≡ (opening edition).link)

-- under either edition
abbrev pub WorkedProbe : Type 0
WorkedProbe = Weak 1 × Weak 2
