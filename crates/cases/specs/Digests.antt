-- Worked cases of the digest command (request Four), of a fresh loader with any buffers that refusals 1 to 4 let pass. The digests are those of RFC 1321, A.5.
use Rattle.std.specs.Prelude.{◌≡◌, List, [], ◌∷◌, length, take, replicate, ℕ}
use Rattle.slip_framing.specs.Frame.{framed}
use Rattle.cases.specs.Feeding.{Lending, sends}
use Rattle.cases.specs.Packets.{digest_packet}

-- the answer with error C5: "A failure has the plain two-byte body."
abbrev pub answer_c5 : List ℕ
answer_c5 = 0xC0 ∷ 0x01 ∷ 0x13 ∷ 0x02 ∷ 0x00 ∷ 0x00 ∷ 0x00 ∷ 0x00 ∷ 0x00 ∷ 0x01 ∷ 0xC5 ∷ 0xC0 ∷ []

pub record DigestCases : Type 0 where
  -- of the three bytes "abc" at the front of flash
  pub abc :
      (r : Lending) → take 3 r.flash ≡ 0x61 ∷ 0x62 ∷ 0x63 ∷ [] → sends r (framed (digest_packet 0 3 0 0))
      ≡ 0xC0 ∷ 0x01 ∷ 0x13 ∷ 0x12 ∷ 0x00 ∷ 0x00 ∷ 0x00 ∷ 0x00 ∷ 0x00
      ∷ 0x90 ∷ 0x01 ∷ 0x50 ∷ 0x98 ∷ 0x3C ∷ 0xD2 ∷ 0x4F ∷ 0xB0 ∷ 0xD6 ∷ 0x96 ∷ 0x3F ∷ 0x7D ∷ 0x28 ∷ 0xE1 ∷ 0x7F ∷ 0x72
      ∷ 0x00 ∷ 0x00 ∷ 0xC0 ∷ []
  -- of no bytes, at the very end of a flash of one sector
  pub none_at_end :
      (r : Lending) → length r.flash ≡ 0x1000 → sends r (framed (digest_packet 0x1000 0 0 0))
      ≡ 0xC0 ∷ 0x01 ∷ 0x13 ∷ 0x12 ∷ 0x00 ∷ 0x00 ∷ 0x00 ∷ 0x00 ∷ 0x00
      ∷ 0xD4 ∷ 0x1D ∷ 0x8C ∷ 0xD9 ∷ 0x8F ∷ 0x00 ∷ 0xB2 ∷ 0x04 ∷ 0xE9 ∷ 0x80 ∷ 0x09 ∷ 0x98 ∷ 0xEC ∷ 0xF8 ∷ 0x42 ∷ 0x7E
      ∷ 0x00 ∷ 0x00 ∷ 0xC0 ∷ []
  -- one byte there is one too many, and so is an address one past it
  pub one_past : (r : Lending) → length r.flash ≡ 0x1000 → sends r (framed (digest_packet 0x1000 1 0 0)) ≡ answer_c5
  pub address_past : (r : Lending) → length r.flash ≡ 0x1000 → sends r (framed (digest_packet 0x1001 0 0 0)) ≡ answer_c5
  -- address plus size is no sum of 32 bits
  pub no_wrap : (r : Lending) → sends r (framed (digest_packet 0xFFFFFFFF 1 0 0)) ≡ answer_c5
  -- a third or a fourth word
  pub third_word : (r : Lending) → sends r (framed (digest_packet 0 0 1 0)) ≡ answer_c5
  pub fourth_word : (r : Lending) → sends r (framed (digest_packet 0 0 0 1)) ≡ answer_c5
  -- a body of three words, which the size field tells: C0, escaped
  pub three_words :
      (r : Lending) → sends r (framed (0x00 ∷ 0x13 ∷ 0x0C ∷ 0x00 ∷ replicate 16 0x00))
      ≡ 0xC0 ∷ 0x01 ∷ 0x13 ∷ 0x02 ∷ 0x00 ∷ 0x00 ∷ 0x00 ∷ 0x00 ∷ 0x00 ∷ 0x01 ∷ 0xDB ∷ 0xDC ∷ 0xC0 ∷ []
