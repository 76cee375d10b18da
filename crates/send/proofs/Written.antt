-- A packet that was written lies within the buffer.
use Prim.Native.Nat.{ℕ, ◌≤◌}
use mathlib.Core.Path.{◌≡◌, refl}
use mathlib.Core.List.{List}
use mathlib.Core.Bool.{Bool, true, false, cond}
use native.Mathlib.Omega.{arith}
use borrow.Author.Tests.{eqb-true, leb-true}
use lib.Dec.{eqb}
use lib.ListN.{length}
use Rattle.lists.specs.Lay.{lay}
use Rattle.lists.proofs.Tests.{first_passed}
use Rattle.slip_framing.specs.Frame.{framed, wrote, refused, Framing}
use Rattle.std.specs.Prelude.{Result, Ok}
use Rattle.sender.specs.Packets.{packet_of}
use Rattle.sender.specs.Sending.{load_checks, refusal, packet_report, sending}
use Rattle.sender.specs.declared.PacketError.{PacketError}

-- a call that tells a length is not refused, and tells that length
told :
    (r m n : ℕ) (x y : List ℕ)
    → wrote n ≡ (cond {A = Framing} (eqb r 0) (record { report = wrote m; buffer = x }) (record { report = refused r; buffer = y })).report
    → (r ≡ 0) × (n ≡ m)
told r m n x y = go (eqb r 0) refl
  where
    go : (t : Bool) → eqb r 0 ≡ t
        → wrote n ≡ (cond {A = Framing} t (record { report = wrote m; buffer = x }) (record { report = refused r; buffer = y })).report
        → (r ≡ 0) × (n ≡ m)
    go true q e = (eqb-true r 0 q, cc)
    go false q e = let z : ◌≡◌ {A = ℕ} 0 1 = cc in absurd (omega arith)

module _ (image : List ℕ) (offset block flash number : ℕ) (buffer : List ℕ) where
  abbrev p : List ℕ
  p = packet_of image offset block number

  fits : refusal image offset block flash number buffer ≡ 0 → length (framed p) ≤ length buffer
  unfolding refusal load_checks
  fits e = leb-true (length (framed p)) (length buffer) (first_passed _ refl e).1.1.1.0

  pub written_fits : (r : Result ℕ PacketError) (n : ℕ) → packet_report r ≡ (sending image offset block flash number buffer).report → r ≡ Ok n → n ≤ length buffer
  unfolding sending
  written_fits r n e q =
      let t = told (refusal image offset block flash number buffer) (length (framed p)) n (lay buffer 0 (framed p)) buffer (rw q at e) in
      omega (arith, fits t.0, t.1)
