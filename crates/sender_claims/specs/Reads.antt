-- What a call of the sender writes is the packet with its number, and the packets of the line by cutting are those that it wrote.
use Rattle.std.specs.Prelude.{◌≡◌, List, [], ◌∷◌, map, ℕ, ◌≤◌, ◌<◌, length, take}
use Rattle.slip_framing.specs.Frame.{longest_frame, framed, wrote}
use Rattle.slip_packets.specs.Packets.{read, packets}
use Rattle.sender.specs.Load.{packet_count}
use Rattle.sender.specs.Packets.{packet_of}
use Rattle.sender.specs.Line.{packets_of, load_line}
use Rattle.sender.specs.Sending.{load_refusal, sending}

-- Each call writes the frame of the packet with its number; `load_line` is these frames, in order.
pub record SenderWrites : Type 0 where
  -- the n bytes that a call tells, from the front of the buffer that it leaves, are the packet with its number, framed
  pub front :
      (image : List ℕ) (offset block flash number : ℕ) (buffer : List ℕ) (n : ℕ)
      → (sending image offset block flash number buffer).report ≡ wrote n
      → take n (sending image offset block flash number buffer).buffer ≡ framed (packet_of image offset block number)
  -- of a load that is not refused, no number is left out, where the buffer holds the longest frame
  pub every_number :
      (image : List ℕ) (offset block flash number : ℕ) (buffer : List ℕ)
      → load_refusal (length image) offset block flash ≡ 0 → number < packet_count (length image) block → longest_frame ≤ length buffer
      → (sending image offset block flash number buffer).report ≡ wrote (length (framed (packet_of image offset block number)))

-- Each framed packet is one packet of the line, read, with the contents of `packet_of`.
pub record SenderIsRead : Type 0 where
  -- the n bytes that a call tells are one packet
  pub each :
      (image : List ℕ) (offset block flash number : ℕ) (buffer : List ℕ) (n : ℕ)
      → (sending image offset block flash number buffer).report ≡ wrote n
      → packets (take n (sending image offset block flash number buffer).buffer) ≡ read (packet_of image offset block number) ∷ []
  -- and the line of a load is its packets, one for one and in order
  pub all :
      (image : List ℕ) (offset block flash : ℕ) → load_refusal (length image) offset block flash ≡ 0
      → packets (load_line image offset block) ≡ map read (packets_of image offset block)
