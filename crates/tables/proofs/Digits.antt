-- Laws of digits and of the bytes that pairs of them say.
use Rattle.std.proofs.Common.{◌≡◌, ◌-◌, ℕ, zero, suc, ◌+◌, ◌*◌, ◌/◌, ◌<◌, ◌≤◌, List, length, get_or, take, set, refl, sym, add-one, arith, length-append, take_at, le-leb}
use Rattle.lists.specs.Lay.{lay, lay_if_fits}
use Rattle.lists.proofs.Fits.{lay-fits}
use Rattle.lists.proofs.Laws.{lay-more, lay-lay, length-lay, set-set-lay}
use Rattle.digits.specs.Hex.{hex2}
use Rattle.tables.specs.Fields.{part_of}
use Rattle.tables.specs.Hex.{pair_at, bytes_in, unhex, digits_in, hex_text, most_shown}

pub length_bytes : (s : List ℕ) (n : ℕ) → length (bytes_in s n) ≡ n
unfolding bytes_in
length_bytes s zero = refl
length_bytes s (suc n) = rw (length-append (bytes_in s n)) (omega (arith, length_bytes s n))

-- one turn of the loop that writes
pub bytes_next :
    (d s : List ℕ) (i v : ℕ) → i < length d → v ≡ pair_at s (2 * i) → set (lay d 0 (bytes_in s i)) i v ≡ lay d 0 (bytes_in s (i + 1))
unfolding bytes_in
bytes_next d s i v h e =
    let n : 0 + length (bytes_in s i) ≡ i = omega (arith, length_bytes s i) in
    let k : 0 + length (bytes_in s i) < length d = omega arith in
    rw (add-one i, ← e) (rw n at (lay-more d 0 (bytes_in s i) v k))

-- whether all that a text says fits
pub said : (s : List ℕ) (n : ℕ) → length s / 2 ≤ n → 0 + length (unhex s) ≤ n
unfolding unhex
said s n h = rw (length_bytes s (length s / 2)) (omega arith)

pub unsaid : (s : List ℕ) (n : ℕ) → n < length s / 2 → n < 0 + length (unhex s)
unfolding unhex
unsaid s n h = rw (length_bytes s (length s / 2)) (omega arith)

-- the front of a buffer, after what a text says was written there
pub decoded :
    (d s after : List ℕ) → length s / 2 ≤ length d → after ≡ lay_if_fits d 0 (unhex s) → part_of after 0 (length s / 2) ≡ unhex s
unfolding part_of lay
decoded d s after fits e =
    let n : length (unhex s) ≡ length s / 2 = unfold unhex in length_bytes s (length s / 2) in
    let l : length (lay d 0 (unhex s)) ≡ length d = length-lay d 0 (unhex s) (said s (length d) fits) in
    let z : length s / 2 - 0 ≡ length s / 2 = omega arith in
    rw (e, lay-fits d 0 (unhex s) (said s (length d) fits), le-leb 0 (length s / 2) (omega arith), z, le-leb (length s / 2) (length (lay d 0 (unhex s))) (omega arith))
    (take_at (unhex s) _ (length s / 2) n)

pub length_digits : (s : List ℕ) (n : ℕ) → length (digits_in s n) ≡ 2 * n
unfolding digits_in
length_digits s zero = refl
length_digits s (suc n) = rw (length-append (digits_in s n)) (omega (arith, length_digits s n))

-- one turn of the loop that writes two digits
pub digits-next :
    (d s h : List ℕ) (i : ℕ) → 2 * i + 1 < length d → h ≡ hex2 (get_or s i 0)
    → set (set (lay d 0 (digits_in s i)) (2 * i) (get_or h 0 0)) (2 * i + 1) (get_or h 1 0) ≡ lay d 0 (digits_in s (i + 1))
unfolding digits_in
digits-next d s h i fits e =
    let n : length (digits_in s i) ≡ 2 * i = length_digits s i in
    let l : length (lay d 0 (digits_in s i)) ≡ length d = length-lay d 0 (digits_in s i) (omega arith) in
    let q : 0 + length (digits_in s i) ≡ 2 * i = omega arith in
    rw (add-one i, e, set-set-lay (lay d 0 (digits_in s i)) (2 * i) _ _ (omega arith))
    (rw q at (lay-lay d 0 (digits_in s i) (hex2 (get_or s i 0)) (omega arith)))

-- whether all digits fit
pub shown : (s : List ℕ) (n : ℕ) → length s ≤ n / 2 → 0 + length (hex_text s) ≤ n
unfolding hex_text
shown s n h = rw (length_digits s (length s)) (omega arith)

pub unshown : (s : List ℕ) (n : ℕ) → n / 2 < length s → n < 0 + length (hex_text s)
unfolding hex_text
unshown s n h = rw (length_digits s (length s)) (omega arith)

-- the front of a buffer of 256 bytes, after the digits of at most 128 bytes were written there
module _ (d s after : List ℕ) (few : length s ≤ most_shown) (long : length d ≡ 256) (e : after ≡ lay_if_fits d 0 (hex_text s)) where
  pub front : take (2 * length s) after ≡ hex_text s
  unfolding lay
  front =
      let n : length (hex_text s) ≡ 2 * length s = unfold hex_text in length_digits s (length s) in
      rw (e, lay-fits d 0 (hex_text s) (omega arith)) (take_at (hex_text s) _ (2 * length s) n)

  pub front_length : 2 * length s ≡ length (take (2 * length s) after)
  front_length = rw front (unfold hex_text in sym (length_digits s (length s)))
