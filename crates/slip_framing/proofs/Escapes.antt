-- Laws of escaping: how long it makes a packet, and how a loop writes it byte by byte.
use Prim.Native.Nat.{ℕ, ◌+◌, ◌*◌, ◌≤◌, ◌<◌}
use mathlib.Core.Path.{◌≡◌, refl}
use mathlib.Core.List.{List, [], ◌∷◌, ◌++◌, append_assoc, append-nil}
use mathlib.Core.Bool.{Bool, true, false, cond}
use native.Mathlib.Numerals.{add-one}
use native.Mathlib.Omega.{arith}
use lib.ListN.{length, take, drop, get_or, set, length-append, take-append-drop, length-set}
use lib.Seq.{take-suc, drop-cons}
use lib.Dec.{eqb}
use Rattle.lists.specs.Lay.{lay}
use Rattle.lists.proofs.Laws.{tests, lay-lay, lay-more, set-lay}
use Rattle.slip_framing.specs.Frame.{end_byte, esc_byte, esc_end_byte, esc_esc_byte, escape_of, escaped, framed}

pub escape_end : (b : ℕ) → b ≡ end_byte → escape_of b ≡ esc_byte ∷ esc_end_byte ∷ []
escape_end b h = rw h

pub escape_esc : (b : ℕ) → b ≡ esc_byte → escape_of b ≡ esc_byte ∷ esc_esc_byte ∷ []
escape_esc b h = rw h

pub escape-none : (b : ℕ) → (b ≡ end_byte → ⊥) → (b ≡ esc_byte → ⊥) → escape_of b ≡ b ∷ []
escape-none b h k = search tests

pub escaped-append : (xs ys : List ℕ) → escaped (xs ++ ys) ≡ escaped xs ++ escaped ys
unfolding escaped
escaped-append [] ys = refl
escaped-append (b ∷ bs) ys = rw (escaped-append bs ys, append_assoc (escape_of b))

escaped-one : (b : ℕ) → escaped (b ∷ []) ≡ escape_of b
unfolding escaped
escaped-one b = append-nil (escape_of b)

pub escaped-take : (p : List ℕ) (i : ℕ) → i < length p → escaped (take (i + 1) p) ≡ escaped (take i p) ++ escape_of (get_or p i 0)
escaped-take p i h = rw (add-one, take-suc p i 0, escaped-append, escaped-one)

escaped-drop : (p : List ℕ) (i : ℕ) → i < length p → escaped (drop i p) ≡ escape_of (get_or p i 0) ++ escaped (drop (i + 1) p)
unfolding escaped
escaped-drop p i h = rw (add-one, drop-cons p i 0)

-- what is written and what is to come make up the whole
escaped_parts : (p : List ℕ) (i : ℕ) → escaped p ≡ escaped (take i p) ++ escaped (drop i p)
escaped_parts p i = rw (← (escaped-append (take i p) (drop i p)), take-append-drop)

pub escape-most : (b : ℕ) → length (escape_of b) ≤ 2
escape-most b = width_of (eqb b end_byte) (eqb b esc_byte)
  where
    width_of : (s t : Bool) → length (cond s (esc_byte ∷ esc_end_byte ∷ []) (cond t (esc_byte ∷ esc_esc_byte ∷ []) (b ∷ []))) ≤ 2
    width_of true t = omega arith
    width_of false true = omega arith
    width_of false false = omega arith

pub escaped-most : (p : List ℕ) → length (escaped p) ≤ 2 * length p
unfolding escaped
escaped-most [] = omega arith
escaped-most (b ∷ bs) = rw (length-append (escape_of b)) (omega (arith, escaped-most bs, escape-most b))

pub length-framed : (p : List ℕ) → length (framed p) ≡ length (escaped p) + 2
unfolding framed
length-framed p = simp length-append (omega arith)

-- of a packet in three parts
pub length_parts : (h b t : List ℕ) → length (h ++ (b ++ t)) ≡ length h + length b + length t
length_parts h b t = rw (length-append h, length-append b) (omega arith)

pub escaped_parts_length : (h b t : List ℕ) → length (escaped (h ++ (b ++ t))) ≡ length (escaped h) + length (escaped b) + length (escaped t)
escaped_parts_length h b t = rw (escaped-append h, escaped-append b, length-append (escaped h), length-append (escaped b)) (omega arith)

pub framed_parts : (h b t : List ℕ) → length (framed (h ++ (b ++ t))) ≡ length (escaped h) + length (escaped b) + length (escaped t) + 2
framed_parts h b t = omega (arith, length-framed (h ++ (b ++ t)), escaped_parts_length h b t)

-- the next byte's escape fits where the whole does
pub escaped-within : (p : List ℕ) (i : ℕ) → i < length p → length (escaped (take i p)) + length (escape_of (get_or p i 0)) ≤ length (escaped p)
escaped-within p i h = rw (escaped_parts p i, escaped-drop p i h, length-append, length-append) (omega arith)

pub escaped-next : (p : List ℕ) (i : ℕ) → i < length p → length (escaped (take (i + 1) p)) ≡ length (escaped (take i p)) + length (escape_of (get_or p i 0))
escaped-next p i h = rw (escaped-take p i h) (length-append (escaped (take i p)) (escape_of (get_or p i 0)))

-- ys laid behind xs
laid_behind : (start one two xs ys : List ℕ) (n at : ℕ) → one ≡ lay start n xs → at ≡ n + length xs → two ≡ lay one at ys → n ≤ length start → two ≡ lay start n (xs ++ ys)
laid_behind start one two xs ys n at e f g k = rw (g, e, f) (lay-lay start n xs ys k)

-- one turn of the loop that writes from place n on: the next byte's escape lies behind those that are written
pub written_next : (p start buffer after : List ℕ) (n i at : ℕ) → buffer ≡ lay start n (escaped (take i p)) → at ≡ n + length (escaped (take i p)) → after ≡ lay buffer at (escape_of (get_or p i 0)) → i < length p → n ≤ length start → after ≡ lay start n (escaped (take (i + 1) p))
written_next p start buffer after n i at e f g h k = rw (escaped-take p i h) (laid_behind start buffer after _ _ n at e f g k)

-- three parts, escaped one behind the other, and the closing C0 make the frame whole
pub written_all :
    (h b t start one two three : List ℕ) (at_b at-t end : ℕ) → one ≡ lay (set start 0 end_byte) 1 (escaped h) → at_b ≡ 1 + length (escaped h)
    → two ≡ lay one at_b (escaped b) → at-t ≡ at_b + length (escaped b) → three ≡ lay two at-t (escaped t) → end ≡ at-t + length (escaped t)
    → length (framed (h ++ (b ++ t))) ≤ length start → set three end end_byte ≡ lay start 0 (framed (h ++ (b ++ t)))
unfolding framed
written_all h b t start one two three at_b at-t end e₁ f₁ e₂ f₂ e₃ f₃ k =
    let p = h ++ (b ++ t) in
    let from = set start 0 end_byte in
    let m = escaped_parts_length h b t in
    let n : length (escaped p) + 2 ≤ length start = omega (arith, length-framed p) in
    let r : 1 ≤ length from = simp length-set (omega arith) in
    let whole : escaped p ≡ (escaped h ++ escaped b) ++ escaped t = rw (escaped-append h (b ++ t), escaped-append b t, append_assoc (escaped h)) in
    let l₂ : two ≡ lay from 1 (escaped h ++ escaped b) = laid_behind from one two (escaped h) (escaped b) 1 at_b e₁ f₁ e₂ r in
    let c : at-t ≡ 1 + length (escaped h ++ escaped b) = rw (length-append (escaped h)) (omega arith) in
    let l₃ : three ≡ lay from 1 (escaped p) = rw whole (laid_behind from two three (escaped h ++ escaped b) (escaped t) 1 at-t l₂ c e₃ r) in
    let d : end ≡ 1 + length (escaped p) = omega arith in
    rw (l₃, d, lay-more from 1 (escaped p) end_byte (simp length-set (omega arith)), set-lay start 0 end_byte (omega arith), lay-lay start 0 (end_byte ∷ []) (escaped p ++ (end_byte ∷ [])) (omega arith))
