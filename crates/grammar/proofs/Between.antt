-- What does not lie between the packets of a choice that fits.
use mathlib.Core.Path.{◌≡◌, refl}
use mathlib.Core.List.{List}
use mathlib.Core.Bool.{Bool, true, false}
use Prim.Native.Nat.{ℕ, ◌≤◌, ◌<◌}
use native.Mathlib.Omega.{arith}
use borrow.Author.Tests.{ltb-true, ltb-false}
use lib.Dec.{ltb}
use Rattle.lists.proofs.Tests.{neither, not-or}
use Rattle.slip_packets.specs.Packets.{Packet}
use Rattle.esp_begin.specs.declared.Begin.{Begin}
use Rattle.esp_begin.specs.declared.Lengths.{Lengths}
use Rattle.grammar.specs.Grammar.{flash_begin, memory_begin, any_begin, good_block, flash_end, packet, filler_block, filler_end, Chain, block, end}
use Rattle.grammar.specs.Theorems.{last_block}
use Rattle.grammar.proofs.Goodness.{block_no_begin, end_no_begin}

-- a place is before another, it, or behind it
data Compared (x j : ℕ) : Type 0 where
  before : x < j → Compared x j
  same : x ≡ j → Compared x j
  behind : j < x → Compared x j

compared : (x j : ℕ) → Compared x j
compared x j = go (ltb x j) refl (ltb j x) refl
  where
    go : (a : Bool) → ltb x j ≡ a → (b : Bool) → ltb j x ≡ b → Compared x j
    go true e b f = before (ltb-true x j e)
    go false e true f = behind (ltb-true j x f)
    go false e false f = let m = ltb-false x j e in let n = ltb-false j x f in same (omega arith)

-- a good BEGIN of neither kind
abbrev pub Unbegun : Lengths → Packet → Type 0
Unbegun l p = (flash_begin l p ≡ false) × (memory_begin l p ≡ false)

module _ (l : Lengths) (ps : List Packet) (g : Begin) where
  -- no good BEGIN of either kind, up to the END
  no_begin : {k from e : ℕ} {js : List ℕ} → Chain l g ps k from js e → (x : ℕ) → from < x → x ≤ e → any_begin l (packet ps x) ≡ false
  unfolding filler_block filler_end
  no_begin (block {k} {from} {j} {e} {js} lt b good rest) x lo hi = go (λ h. no_begin rest x h hi) (compared x j)
    where
      go : (j < x → any_begin l (packet ps x) ≡ false) → Compared x j → any_begin l (packet ps x) ≡ false
      go ih (before h) = (not-or (any_begin l (packet ps x)) (good_block g k (packet ps x)) (b.only x lo h)).0
      go ih (same h) = rw h (block_no_begin l g k (packet ps j) good)
      go ih (behind h) = ih h
  no_begin (end {k} {from} {e} is b good) x lo hi = go (compared x e)
    where
      go : Compared x e → any_begin l (packet ps x) ≡ false
      go (before h) = (not-or (any_begin l (packet ps x)) (flash_end (packet ps x)) (b.only x lo h)).0
      go (same h) = rw h (end_no_begin l (packet ps e) good)
      go (behind h) = absurd (omega arith)

  pub unbegun : {k from e : ℕ} {js : List ℕ} → Chain l g ps k from js e → (x : ℕ) → from < x → x ≤ e → Unbegun l (packet ps x)
  unfolding any_begin
  unbegun c x lo hi = neither (flash_begin l (packet ps x)) (memory_begin l (packet ps x)) (no_begin c x lo hi)

  -- no END behind the last block but the chosen one
  pub first_end : {k from e : ℕ} {js : List ℕ} → Chain l g ps k from js e → (x : ℕ) → last_block from js < x → x < e → flash_end (packet ps x) ≡ false
  unfolding filler_end last_block
  first_end (block lt b good rest) x lo hi = first_end rest x lo hi
  first_end (end is b good) x lo hi = (not-or (any_begin l (packet ps x)) (flash_end (packet ps x)) (b.only x lo hi)).1
