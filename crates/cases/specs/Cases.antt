-- "Starred ones are proved of the definitions themselves, gathered in a single table under a single statement."
use Rattle.std.specs.Prelude.{◌≡◌, List, [], ◌∷◌, true, ℕ, ◌^◌, ◌≤◌, ◌<◌, length, take, drop, replicate}
use Rattle.lists.specs.Checks.{first}
use Rattle.fields.specs.Checksum.{checksum}
use Rattle.fields.specs.Merge.{merged}
use Rattle.pins.specs.Packer.{word, packing_of}
use Rattle.slip_framing.specs.Frame.{framed, framed_all}
use Rattle.esp_begin.specs.Begin.{flash_rule}
use Rattle.link_frames.specs.Editions.{is_edition}
use Rattle.link_frames.specs.Frames.{baud_rate, data_frame}
use Rattle.link_state.specs.Clock.{elapsed}
use Rattle.link_state.specs.Link.{in_baud, in_open}
use Rattle.link_state.specs.Silence.{checked}
use Rattle.link_refusals.specs.Refusals.{shortest_buffer, send_checks}
use Rattle.link.specs.Answers.{sent_by}
use Rattle.link.specs.Step.{byte_step, send_step}
use Rattle.link_state.specs.declared.Link.{Link}
use Rattle.cases.specs.Feeding.{Lending, begun, fed, sends}
use Rattle.cases.specs.LinkCalls.{receives, Completes, AliveAt, LostAt}
use Rattle.cases.specs.Packets.{sync_packet, begin_packet, Block, data_packet}

-- "S 5000, n 5, b 1024, offset 8192", and its five blocks with their data
abbrev pub five_blocks : List ℕ → List ℕ → List ℕ → List ℕ → List ℕ → List (List ℕ)
five_blocks d₀ d₁ d₂ d₃ d₄ =
    begin_packet 5000 5 1024 8192
    ∷ data_packet 0 d₀ ∷ data_packet 1 d₁ ∷ data_packet 2 d₂ ∷ data_packet 3 d₃ ∷ data_packet 4 d₄ ∷ []

-- The loader's cases are said of a fresh loader with any buffers that refusals 1 to 4 let pass, whatever they hold; 12 and 14 of any link record and buffer with which the call is not refused.
pub record Starred : Type 0 where
  -- 1. "Checksum of no data is EF."
  pub case_1 : checksum [] ≡ 0xEF
  -- 2. "Of EF it is 00."
  pub case_2 : checksum (0xEF ∷ []) ≡ 0x00
  -- 3. "Packet DB DC is framed C0 DB DD DC C0."
  pub case_3 : framed (0xDB ∷ 0xDC ∷ []) ≡ 0xC0 ∷ 0xDB ∷ 0xDD ∷ 0xDC ∷ 0xC0 ∷ []
  -- 4. "Good SYNC: C0 01 08 02 00 00 00 00 00 00 00 C0."
  pub case_4 :
      (r : Lending) → sends r (framed (sync_packet 36 32))
      ≡ 0xC0 ∷ 0x01 ∷ 0x08 ∷ 0x02 ∷ 0x00 ∷ 0x00 ∷ 0x00 ∷ 0x00 ∷ 0x00 ∷ 0x00 ∷ 0x00 ∷ 0xC0 ∷ []
  -- 5. "SYNC with 35 bytes of body: C0 01 08 02 00 00 00 00 00 01 DB DC C0." The size field is 35 too: it is the body's length that is wrong.
  pub case_5 :
      (r : Lending) → sends r (framed (sync_packet 35 31))
      ≡ 0xC0 ∷ 0x01 ∷ 0x08 ∷ 0x02 ∷ 0x00 ∷ 0x00 ∷ 0x00 ∷ 0x00 ∷ 0x00 ∷ 0x01 ∷ 0xDB ∷ 0xDC ∷ 0xC0 ∷ []
  -- 6. "S 5000, n 5, b 1024, offset 8192 is good in 64 KiB": by the rule, and BEGIN is answered with success
  pub case_6_rule :
      (n : ℕ)
      → flash_rule (record { flash = 0x10000; words = n }) (record { size = 5000; count = 5; block = 1024; offset = 8192 }) ≡ true
  pub case_6_begin :
      (r : Lending) → length r.flash ≡ 0x10000 → sends r (framed (begin_packet 5000 5 1024 8192))
      ≡ 0xC0 ∷ 0x01 ∷ 0x02 ∷ 0x02 ∷ 0x00 ∷ 0x00 ∷ 0x00 ∷ 0x00 ∷ 0x00 ∷ 0x00 ∷ 0x00 ∷ 0xC0 ∷ []
  -- "after five blocks 13192 to 16383 are 0xFF": for every flash of 64 KiB and every data of the blocks, of which the last 120 bytes, past S, have to be 0xFF
  pub case_6_erased :
      (r : Lending) → length r.flash ≡ 0x10000
      → (d₀ d₁ d₂ d₃ d₄ : List ℕ) → Block d₀ → Block d₁ → Block d₂ → Block d₃ → Block d₄ → drop 904 d₄ ≡ replicate 120 0xFF
      → take 3192 (drop 13192 (fed (begun r) (framed_all (five_blocks d₀ d₁ d₂ d₃ d₄))).flash) ≡ replicate 3192 0xFF
  -- 7. "n 4 gives C5; so does n 6."
  pub case_7_4 :
      (r : Lending) → sends r (framed (begin_packet 5000 4 1024 8192))
      ≡ 0xC0 ∷ 0x01 ∷ 0x02 ∷ 0x02 ∷ 0x00 ∷ 0x00 ∷ 0x00 ∷ 0x00 ∷ 0x00 ∷ 0x01 ∷ 0xC5 ∷ 0xC0 ∷ []
  pub case_7_6 :
      (r : Lending) → sends r (framed (begin_packet 5000 6 1024 8192))
      ≡ 0xC0 ∷ 0x01 ∷ 0x02 ∷ 0x02 ∷ 0x00 ∷ 0x00 ∷ 0x00 ∷ 0x00 ∷ 0x00 ∷ 0x01 ∷ 0xC5 ∷ 0xC0 ∷ []
  -- 8. "Word 12345678, value FFFF0000, mask 00FF00FF (hex): 12FF5600."
  pub case_8 : merged 0x12345678 0xFFFF0000 0x00FF00FF ≡ 0x12FF5600
  -- 9. "HD 9, Q 7, D 8, CS 11, CLK 6: 091C82C6 hex."
  pub case_9 : packing_of (record { hd = 9; q = 7; d = 8; cs = 11; clk = 6 }) ≡ word 0x091C82C6
  -- 11. "115200: 03 00 C2 01 00 C0": the frame, and what a link in Baud, of either edition, makes of its bytes
  pub case_11_frame : baud_rate 115200 ≡ 0x03 ∷ 0x00 ∷ 0xC2 ∷ 0x01 ∷ 0x00 ∷ 0xC0 ∷ []
  pub case_11_read :
      (edition : ℕ) → is_edition edition ≡ true → (tick : ℕ) → tick < 2 ^ 32 → (buffer : List ℕ) → shortest_buffer ≤ length buffer
      → receives (in_baud edition tick) tick buffer (0x03 ∷ 0x00 ∷ 0xC2 ∷ 0x01 ∷ 0x00 ∷ 0xC0 ∷ []) ≡ in_open edition 115200 tick
  -- 12. "Data 48 49: 05 02 48 49 06": the frame, and what a call that is not refused sends
  pub case_12_frame : data_frame (0x48 ∷ 0x49 ∷ []) ≡ 0x05 ∷ 0x02 ∷ 0x48 ∷ 0x49 ∷ 0x06 ∷ []
  pub case_12_sent :
      (l : Link) (tick : ℕ) (buffer : List ℕ) → first (send_checks l (checked l tick) 2 (length buffer)) ≡ 0
      → sent_by (send_step l (0x48 ∷ 0x49 ∷ []) tick buffer) ≡ 0x05 ∷ 0x02 ∷ 0x48 ∷ 0x49 ∷ 0x06 ∷ []
  -- 14. "Silence: tick FFFFFFFF then 000000F8 hex is 249 ms, alive; F9 is 250, Start", which "reads of frames" (document 02, Three): FFFFFFFF is the tick of
  -- the last byte of a frame
  pub case_14_249 : elapsed 0xFFFFFFFF 0x000000F8 ≡ 249
  pub case_14_alive : (l : Link) (b : ℕ) (buffer : List ℕ) → Completes l b 0xFFFFFFFF buffer → AliveAt (byte_step l b 0xFFFFFFFF buffer).link 0x000000F8 buffer
  pub case_14_250 : elapsed 0xFFFFFFFF 0x000000F9 ≡ 250
  pub case_14_start : (l : Link) (b : ℕ) (buffer : List ℕ) → Completes l b 0xFFFFFFFF buffer → LostAt (byte_step l b 0xFFFFFFFF buffer).link 0x000000F9 buffer
  -- and a byte h that comes in between, at whatever tick, and is held changes neither
  pub case_14_held_alive :
      (l : Link) (b : ℕ) (buffer : List ℕ) → Completes l b 0xFFFFFFFF buffer
      → (h tick : ℕ) → let l' : Link = (byte_step (byte_step l b 0xFFFFFFFF buffer).link h tick buffer).link in l'.held ≡ 1 → AliveAt l' 0x000000F8 buffer
  pub case_14_held_start :
      (l : Link) (b : ℕ) (buffer : List ℕ) → Completes l b 0xFFFFFFFF buffer
      → (h tick : ℕ) → let l' : Link = (byte_step (byte_step l b 0xFFFFFFFF buffer).link h tick buffer).link in l'.held ≡ 1 → LostAt l' 0x000000F9 buffer
