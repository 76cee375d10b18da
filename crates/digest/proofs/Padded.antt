-- Laws of the padded message and of its tail.
use mathlib.Core.Path.{◌≡◌, refl, sym, ap, ◌∙◌}
use mathlib.Core.List.{List, ◌∷◌, ◌++◌, append_assoc}
use Prim.Native.Nat.{ℕ, zero, suc, ◌+◌, ◌-◌, ◌*◌, ◌/◌, ◌%◌, ◌≤◌}
use native.Mathlib.Nat.{zero-add}
use native.Mathlib.Omega.{arith}
use lib.ListN.{length, take, drop, set, replicate, length-append, length-replicate, length-drop, replicate-append-replicate}
use lib.Seq.{take_at, set_at, drop-append-le}
use Rattle.lists.specs.Lay.{lay, lay_if_fits}
use Rattle.lists.proofs.Fits.{lay-fits}
use Rattle.digest.specs.Padding.{zeros_of, length_of, padded}
use Rattle.digest.specs.Tail.{tail_of, tail_size}

length_8 : (n : ℕ) → length (length_of n) ≡ 8
unfolding length_of
length_8 n = refl

drop-replicate : {A : Type 0} (k n : ℕ) (a : A) → drop k (replicate n a) ≡ replicate (n - k) a
drop-replicate zero n a = let e : n - 0 ≡ n = omega arith in rw e
drop-replicate (suc k) zero a = let e : 0 - suc k ≡ 0 = omega arith in rw e
drop-replicate (suc k) (suc n) a = let e : suc n - suc k ≡ n - k = omega arith in rw e (drop-replicate k n a)

pub padded-length : (m : List ℕ) → length (padded m) ≡ length m + 1 + zeros_of (length m) + 8
unfolding padded
padded-length m = simp (length-append, length-replicate, length_8) (omega arith)

-- a run that is laid behind a front, up to its own end
laid_behind : (p q l : List ℕ) → length l ≤ length q → take (length p + length l) (lay_if_fits (p ++ q) (length p) l) ≡ p ++ l
unfolding lay
laid_behind p q l h =
    rw (lay-fits (p ++ q) (length p) l (rw (length-append p q) (omega arith)), take_at p q (length p) refl, ← (append_assoc p l))
    (take_at (p ++ l) _ (length p + length l) (length-append p l))

-- a run laid over the front of zeros
laid_front : (u : List ℕ) (n : ℕ) → length u ≤ n → lay_if_fits (replicate n 0) 0 u ≡ u ++ replicate (n - length u) 0
unfolding lay
laid_front u n h =
    rw (lay-fits (replicate n 0) 0 u (rw (length-replicate {A = ℕ} n 0, zero-add) h), zero-add, drop-replicate {A = ℕ} (length u) n 0)

-- the tail up to the length: the rest of the message, the mark and the zeros
front : List ℕ → List ℕ
front m = drop (length m / 64 * 64) m ++ 0x80 ∷ replicate (zeros_of (length m)) 0

module _ (m : List ℕ) where
  tail-front : tail_of m ≡ front m ++ length_of (length m)
  unfolding tail_of padded front
  tail-front =
      drop-append-le (length m / 64 * 64) m _ (omega arith)
      ∙ sym (append_assoc (drop (length m / 64 * 64) m) (0x80 ∷ replicate (zeros_of (length m)) 0) (length_of (length m)))

  rest-length : length (drop (length m / 64 * 64) m) ≡ length m % 64
  rest-length = rw (length-drop (length m / 64 * 64) m) (omega arith)

  front_length : length (front m) ≡ length m % 64 + 1 + zeros_of (length m)
  unfolding front
  front_length = simp (length-append, rest-length, length-replicate) (omega arith)

  pub tail-length : length (tail_of m) ≡ tail_size (length m)
  tail-length = rw (tail-front, length-append (front m) (length_of (length m)), front_length, length_8 (length m))

  -- the mark behind the rest of the message, in 128 bytes
  marked : set (drop (length m / 64 * 64) m ++ replicate (128 - length m % 64) 0) (length m % 64) 0x80
      ≡ front m ++ replicate (127 - length m % 64 - zeros_of (length m)) 0
  unfolding front zeros_of
  marked =
      let z : ℕ = zeros_of (length m) in
      let k : ℕ = 127 - length m % 64 - z in
      let e : 128 - length m % 64 ≡ suc (z + k) = omega arith in
      let u = drop (length m / 64 * 64) m in
      rw (e, set_at u 0 (replicate (z + k) 0) 0x80 (length m % 64) rest-length, ← (replicate-append-replicate {A = ℕ} z k 0))
      (sym (append_assoc u (0x80 ∷ replicate z 0) (replicate k 0)))

  -- what is written to 128 zeros: the rest of the message, the mark and the length
  pub tail_laid : {t₁ t₃ : List ℕ} {u : List ℕ} {e : ℕ} → u ≡ drop (length m / 64 * 64) m → t₁ ≡ lay_if_fits (replicate 128 0) 0 u
      → e ≡ tail_size (length m) → t₃ ≡ lay_if_fits (set t₁ (length m % 64) 0x80) (e - 8) (length_of (length m))
      → take (tail_size (length m)) t₃ ≡ tail_of m
  unfolding zeros_of
  tail_laid {t₁} {t₃} {u} {e} eu e₁ ee e₃ =
      let n : ℕ = length m in
      let s₁ : t₁ ≡ drop (n / 64 * 64) m ++ replicate (128 - n % 64) 0 =
      e₁ ∙ rw eu (rw rest-length at (laid_front (drop (n / 64 * 64) m) 128 (rw rest-length (omega arith)))) in
      let s₂ : e - 8 ≡ length (front m) = rw front_length (omega arith) in
      let s₃ : tail_size n ≡ length (front m) + length (length_of n) = rw (front_length, length_8 n) in
      let q : List ℕ = replicate (127 - n % 64 - zeros_of n) 0 in
      let h : length (length_of n) ≤ length q = rw (length_8 n, length-replicate {A = ℕ} (127 - n % 64 - zeros_of n) 0) (omega arith) in
      ap (λ (k : ℕ). take k t₃) s₃
      ∙ ap (take (length (front m) + length (length_of n))) (e₃ ∙ rw (s₁, marked, s₂))
      ∙ laid_behind (front m) q (length_of n) h
      ∙ sym tail-front
