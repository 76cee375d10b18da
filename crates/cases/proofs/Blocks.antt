-- The load of case 6: its blocks are good, and block after block flash is what was laid over it.
use mathlib.Core.Path.{◌≡◌, refl, sym, ◌∙◌}
use mathlib.Core.List.{List, [], ◌∷◌, ◌++◌}
use mathlib.Core.Bool.{true}
use Prim.Native.Nat.{ℕ, suc, ◌+◌, ◌-◌, ◌*◌, ◌^◌, ◌≤◌, ◌<◌}
use native.Mathlib.Omega.{arith}
use borrow.Author.Tests.{eq-eqb}
use lib.Bits.{bit_xor, xor_lt}
use lib.ListN.{length, take, drop, get_or, replicate, length-append, drop_of_length-le}
use Rattle.lists.specs.Bytes.{all_are}
use Rattle.fields.specs.Words as words
use Rattle.fields.specs.Checksum.{xored, checksum}
use Rattle.fields.proofs.Theorems.{word_back}
use Rattle.slip_framing.specs.Frame.{framed, framed_all}
use Rattle.slip_unframing.specs.Reasons.{whole}
use Rattle.slip_packets.specs.Packets.{read, header}
use Rattle.esp_commands.specs.Header.{command, sized, shaped, data_shaped}
use Rattle.esp_begin.specs.Begin.{begin_of, round_up, counted, flash_rule}
use Rattle.esp_commands.specs.Block.{payload, zero_words, sum_good, padding, padding_good}
use Rattle.esp_begin.specs.declared.Begin.{Begin}
use Rattle.esp_begin.proofs.Sectors.{next-block}
use Rattle.loader_sessions.specs.declared.Session.TheVariants.{Flash}
use Rattle.loader_effects.specs.Core.{Core}
use Rattle.loader_run.specs.Step.{Step}
use Rattle.grammar.specs.Grammar as grammar
use Rattle.grammar.specs.Grammar.{flash_begin, good_block, carries}
use Rattle.grammar.specs.Loaded.{Loaded}
use Rattle.grammar.proofs.Goodness.{block-whole}
use Rattle.loader_history.proofs.Sessions.{began, accepts}
use Rattle.loader_history.proofs.Flash.{loaded_up_to, nothing_loaded, Sizes, block_loaded, loaded}
use Rattle.cases.specs.Feeding.{Lending, begun, fed}
use Rattle.cases.specs.Packets.{begin_packet, Block, data_packet}
use Rattle.cases.specs.Cases.{five_blocks}
use Rattle.cases.proofs.Fed.{fed_all, fed-all, fresh_core, Idle, idle_fresh, idle_after}

-- what its BEGIN announces
abbrev load : Begin
load = record { size = 5000; count = 5; block = 1024; offset = 8192 }

xored-byte : (bytes : List ℕ) (x : ℕ) → x < 2 ^ 8 → ((i : ℕ) → get_or bytes i 0 < 256) → xored x bytes < 2 ^ 8
unfolding xored
xored-byte [] x h b = h
xored-byte (a ∷ bytes) x h b = xored-byte bytes (bit_xor x a) (xor_lt 8 x a h (b 0)) (λ i. b (suc i))

module _ (k : ℕ) (d : List ℕ) (b : Block d) where
  abbrev packet : List ℕ
  packet = data_packet k d

  packet_length : length packet ≡ 1048
  packet_length = rw b.full

  packet-read : header (whole packet) ≡ read packet
  unfolding header
  packet-read = rw packet_length

  checksum-word : checksum d < 2 ^ 32
  unfolding checksum
  checksum-word = omega (arith, xored-byte d 0xEF (omega arith) b.each)

  good : k < 2 ^ 32 → all_are 0xFF (drop (5000 - k * 1024) d) ≡ true → good_block load k (header (whole packet)) ≡ true
  unfolding command sized data_shaped words.half words.word zero_words sum_good padding_good padding payload
  good h padded =
      rw packet-read (block-whole load k packet (record {
        numbered = refl;
        is_shaped = rw b.full;
        sized-block = refl;
        zeros = refl;
        in_sequence = eq-eqb _ k (word_back k h);
        sum = eq-eqb _ _ (word_back (checksum d) checksum-word);
        padded = padded;
      }))

  carried : carries (header (whole packet)) ≡ d
  unfolding carries payload
  carried = rw packet-read

-- a loader with k blocks taken, whose data is img, over the flash f
record Loading (f : List ℕ) (k : ℕ) (img : List ℕ) (s : Step) : Type 0 where
  core : Core
  idle : Idle s core
  session : core.session ≡ Flash load k
  sizes : Sizes load k img f
  flash : core.flash ≡ loaded_up_to 8192 f (take 5000 img)

begins : (r : Lending) → length r.flash ≡ 0x10000 → Loading r.flash 0 [] (fed (begun r) (framed (begin_packet 5000 5 1024 8192)))
unfolding header command shaped sized words.half words.word flash_begin grammar.begins begin_of flash_rule counted round_up
begins r h =
    let t = began (fresh_core r) (header (whole (begin_packet 5000 5 1024 8192))) (rw h) in
    record {
      core = _;
      idle = idle_after (idle_fresh r) (begin_packet 5000 5 1024 8192) (omega arith) (omega arith);
      session = t.0;
      sizes = record { enough = omega arith; tight = omega arith; within = rw h (omega arith); image = refl };
      flash = t.1 ∙ sym (nothing_loaded 8192 r.flash);
    }

next : {f : List ℕ} {k : ℕ} {img : List ℕ} {s : Step} → Loading f k img s → k < 5 → (d : List ℕ) → Block d
    → all_are 0xFF (drop (5000 - k * 1024) d) ≡ true
    → Loading f (k + 1) (img ++ d) (fed s (framed (data_packet k d)))
next {f} {k} {img} {s} l lt d b padded =
    let n = packet_length k d b in
    let t = accepts l.core load k (header (whole (data_packet k d))) l.session lt (good k d b (omega arith) padded) in
    record {
      core = _;
      idle = idle_after l.idle (data_packet k d) (omega arith) (omega arith);
      session = t.0;
      sizes = record {
        enough = l.sizes.enough;
        tight = l.sizes.tight;
        within = l.sizes.within;
        image = rw (length-append img d, l.sizes.image, b.full, next-block k 1024);
      };
      flash = t.1 ∙ rw (carried k d b, l.flash) (block_loaded load k img d f l.sizes lt b.full);
    }

no_padding : (d : List ℕ) (n : ℕ) → length d ≤ n → all_are 0xFF (drop n d) ≡ true
unfolding all_are
no_padding d n h = rw (drop_of_length-le d h)

module _ (r : Lending) (h : length r.flash ≡ 0x10000) (d₀ d₁ d₂ d₃ d₄ : List ℕ)
    (b₀ : Block d₀) (b₁ : Block d₁) (b₂ : Block d₂) (b₃ : Block d₃) (b₄ : Block d₄) (padded : drop 904 d₄ ≡ replicate 120 0xFF) where
  all_taken : Loading r.flash 5 ((((([] ++ d₀) ++ d₁) ++ d₂) ++ d₃) ++ d₄) (fed_all (begun r) (five_blocks d₀ d₁ d₂ d₃ d₄))
  unfolding all_are
  all_taken =
      let l₁ = next (begins r h) (omega arith) d₀ b₀ (no_padding d₀ 5000 (omega (arith, b₀.full))) in
      let l₂ = next l₁ (omega arith) d₁ b₁ (no_padding d₁ 3976 (omega (arith, b₁.full))) in
      let l₃ = next l₂ (omega arith) d₂ b₂ (no_padding d₂ 2952 (omega (arith, b₂.full))) in
      let l₄ = next l₃ (omega arith) d₃ b₃ (no_padding d₃ 1928 (omega (arith, b₃.full))) in
      next l₄ (omega arith) d₄ b₄ (rw padded)

  abbrev taken : List ℕ
  taken = (((([] ++ d₀) ++ d₁) ++ d₂) ++ d₃) ++ d₄

  pub five_loaded : Loaded load taken r.flash (fed (begun r) (framed_all (five_blocks d₀ d₁ d₂ d₃ d₄))).flash
  five_loaded =
      let l = all_taken in
      rw (fed-all (begun r) (five_blocks d₀ d₁ d₂ d₃ d₄), l.idle.is, l.flash) (loaded load taken r.flash l.sizes)
