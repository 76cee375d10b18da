-- The parts of a packet make the packet.
use mathlib.Core.Path.{◌≡◌, refl, sym, ap}
use mathlib.Core.List.{List, ◌∷◌, ◌++◌}
use Prim.Native.Nat.{ℕ, zero, suc, ◌+◌, ◌-◌, ◌≤◌}
use native.Mathlib.Omega.{arith}
use lib.ListN.{length, take, drop, replicate}
use Rattle.fields.specs.Words.{bytes_of}
use Rattle.fields.specs.Header.{header_of}
use Rattle.fields.specs.Checksum.{seed, xored, checksum}
use Rattle.fields.proofs.Checksum.{xored-append}
use Rattle.esp_commands.specs.Numbers.{flash_data_command}
use Rattle.esp_requests.specs.Requests.{request}
use Rattle.esp_data.specs.Data.{padded, data_packet}

-- the head before the data, with their length and checksum
pub data_whole : (block k size sum : ℕ) (head bytes : List ℕ) → size ≡ length bytes → sum ≡ checksum bytes
    → head ≡ header_of 0 flash_data_command (16 + size) sum ++ (bytes_of block ++ (bytes_of k ++ (bytes_of 0 ++ bytes_of 0)))
    → head ++ bytes ≡ data_packet block k bytes
unfolding request data_packet
data_whole block k size sum head bytes e s h =
    let body : List ℕ = bytes_of block ++ (bytes_of k ++ (bytes_of 0 ++ (bytes_of 0 ++ bytes))) in
    let n : 16 + size ≡ length body = omega arith in
    rw (h, s, n) refl

-- the checksum of two parts, the second from that of the first on
pub sum_of_parts : {x y : ℕ} (part padding : List ℕ) → x ≡ checksum (drop 0 part) → y ≡ xored x (drop 0 padding) → y ≡ checksum (part ++ padding)
unfolding checksum
sum_of_parts part padding e f = rw (f, e) (sym (xored-append seed part padding))

take-replicate : (m n v : ℕ) → m ≤ n → take m (replicate n v) ≡ replicate m v
take-replicate zero n v h = refl
take-replicate (suc m) zero v h = absurd (omega arith)
take-replicate (suc m) (suc n) v h = ap (λ l. v ∷ l) (take-replicate m n v (omega arith))

-- so much is missing, of the longest padding
pub some_missing : (block v : ℕ) (part : List ℕ) → block ≤ 4096 → v ≡ 0xFF → part ++ take (block - length part) (replicate 4096 v) ≡ padded block part
unfolding padded
some_missing block v part h e = rw (take-replicate (block - length part) 4096 v (omega arith), e) refl
