-- Laws of the numbers of the operations.
use Rattle.std.proofs.Common.{◌≡◌, ℕ, ◌+◌, ◌*◌, ◌/◌, ◌%◌, ◌<◌, Bool, ◌&&◌, eqb, ltb, sym, ◌∙◌, ap₂, arith, eqb→eq, ltb→lt}
use Rattle.digest_block.specs.declared.Function.{Function}
use Rattle.digest_block.specs.declared.Function.TheVariants.{F, G, H, I}
use Rattle.digest_block.specs.Functions.{number, of_round}
use Rattle.digest_block.specs.Tables.{places, place_of, shifts, shift_of}
use Rattle.digest_block.proofs.Entries.{at, both_left, both_right}

-- the k of operation j of round n, by a rule
abbrev pub ruled : ℕ → ℕ → ℕ
ruled n j = of_round n j ((5 * j + 1) % 16) ((3 * j + 5) % 16) (7 * j % 16)

by_rule : ℕ → ℕ → Bool
by_rule i k = eqb k (ruled (i / 16) (i % 16))

pub place_ruled : (n j : ℕ) → n < 4 → j < 16 → ruled n j ≡ place_of n j
unfolding place_of places by_rule
place_ruled n j hn hj =
    let i = 16 * n + j in
    let en : i / 16 ≡ n = omega arith in
    let ej : i % 16 ≡ j = omega arith in
    sym (eqb→eq (place_of n j) (ruled (i / 16) (i % 16)) (at by_rule places tt i (omega arith)) ∙ ap₂ ruled en ej)

small : ℕ → ℕ → Bool
small i s = ltb 0 s && ltb s 32

-- a rotation is by less than a word, and by something
shift_small : (n c s : ℕ) → n < 4 → c < 4 → s ≡ shift_of n c → (0 < s) × (s < 32)
unfolding shift_of shifts small
shift_small n c s hn hc e =
    let t = at small shifts tt (4 * n + c) (omega arith) in
    let s' = shift_of n c in
    rw e (ltb→lt 0 s' (both_left (ltb 0 s') (ltb s' 32) t), ltb→lt s' 32 (both_right (ltb 0 s') (ltb s' 32) t))

-- of a function
pub turn_small : (f : Function) (c : ℕ) {s : ℕ} → c < 4 → s ≡ shift_of (number f) c → (0 < s) × (s < 32)
turn_small F c h e = shift_small 0 c _ (omega arith) h e
turn_small G c h e = shift_small 1 c _ (omega arith) h e
turn_small H c h e = shift_small 2 c _ (omega arith) h e
turn_small I c h e = shift_small 3 c _ (omega arith) h e
