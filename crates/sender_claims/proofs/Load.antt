-- A load that the sender does not refuse: each packet can be framed and is read; handled in order from no session on, each succeeds, and the image stands in flash.
use mathlib.Core.Path.{◌≡◌, refl}
use mathlib.Core.List.{List, [], ◌∷◌, map}
use Prim.Native.Nat.{ℕ}
use lib.ListN.{length, take}
use Rattle.lists.specs.Bytes.{IsBytes}
use Rattle.slip_unframing.specs.Reasons.{whole}
use Rattle.slip_packets.specs.Packets.{read, header}
use Rattle.loader_sessions.specs.declared.Session.TheVariants.{Closed}
use Rattle.loader_effects.specs.Core.{Core}
use Rattle.sender.specs.Load.{packet_count}
use Rattle.sender.specs.Packets.{packet_of}
use Rattle.sender.specs.Line.{consecutive, packets_of}
use Rattle.sender.specs.Sending.{load_refusal}
use Rattle.sender_claims.specs.Succeeds.{success}
use Rattle.sender_claims.specs.Stands.{Stands}
use Rattle.sender_claims.proofs.Over.{tells_over, core_over, AllFrameable}
use Rattle.sender.proofs.Sizes.{sized}
use Rattle.esp_requests.proofs.Lengths.{Frameable}
use Rattle.sender.proofs.Packets.{packet_frameable}
use Rattle.sender_claims.proofs.Requests.{IsRead, packet-read}
use Rattle.sender_claims.proofs.Succeeding.{succeeding_tells, succeeding_so_far, succeeding_leaves}
use Rattle.sender_claims.proofs.Blocks.{all_succeed, stands}

frameable_all : (ns : List ℕ) (f : ℕ → List ℕ) → ((n : ℕ) → Frameable (f n)) → AllFrameable (map f ns)
unfolding AllFrameable
frameable_all [] f r = tt
frameable_all (n ∷ ns) f r = (r n, frameable_all ns f r)

all_read : (ns : List ℕ) (f : ℕ → List ℕ) → ((n : ℕ) → IsRead (f n)) → map (λ p. header (whole p)) (map f ns) ≡ map read (map f ns)
all_read [] f r = refl
all_read (n ∷ ns) f r = rw (r n, all_read ns f r)

module _ (image : List ℕ) (offset block flash : ℕ) (good : load_refusal (length image) offset block flash ≡ 0) where
  pub load_frameable : AllFrameable (packets_of image offset block)
  unfolding packets_of
  load_frameable =
      frameable_all (consecutive 0 (packet_count (length image) block)) (packet_of image offset block)
      (λ n. packet_frameable image offset block n (sized _ _ _ _ good).most)

  pub load_read : map (λ p. header (whole p)) (packets_of image offset block) ≡ map read (packets_of image offset block)
  unfolding packets_of
  load_read = all_read (consecutive 0 (packet_count (length image) block)) (packet_of image offset block) (packet-read image offset block)

-- what a fresh loader's packets act on
abbrev pub fresh_core : (flash words : List ℕ) → Core
fresh_core flash words = record { session = Closed; attach = 0; flash = flash; words = words }

-- what the load leaves of it
pub record Left (image : List ℕ) (offset : ℕ) (flash words : List ℕ) (c : Core) : Type 0 where
  pub no_session : c.session ≡ Closed
  pub same_attach : c.attach ≡ 0
  pub same_words : c.words ≡ words
  pub image_stands : Stands image offset flash c.flash

module _ (image : List ℕ) (offset block : ℕ) (flash words : List ℕ) (bytes : IsBytes image)
    (good : load_refusal (length image) offset block (length flash) ≡ 0) where
  pub load-tells : tells_over (fresh_core flash words) (packets_of image offset block) ≡ map success (packets_of image offset block)
  load-tells = succeeding_tells (all_succeed image offset block flash words (sized _ _ _ _ good) bytes)

  pub load_so_far : (n : ℕ) → tells_over (fresh_core flash words) (take n (packets_of image offset block)) ≡ map success (take n (packets_of image offset block))
  load_so_far n = succeeding_so_far n (all_succeed image offset block flash words (sized _ _ _ _ good) bytes)

  pub load-leaves : Left image offset flash words (core_over (fresh_core flash words) (packets_of image offset block))
  load-leaves =
      let z = sized _ _ _ _ good in
      rw (succeeding_leaves (all_succeed image offset block flash words z bytes))
      (record { no_session = refl; same_attach = refl; same_words = refl; image_stands = stands image offset block flash words z })
