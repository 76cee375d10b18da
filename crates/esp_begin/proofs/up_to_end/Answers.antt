use Prim.Native.Nat.{ℕ}
use Rattle.esp_begin.specs.Begin.{memory_end}
use borrow.Author.Tests.{le-leb, lt-leb}
use mathlib.Core.Path.{sym}
use native.Mathlib.Omega.{arith}
use Rattle.esp_begin.proofs.up_to_end.Goals as goal

pub returns-then-address-start : goal.returns-then-address-start
returns-then-address-start c = let l = c.args.lengths in let a : ℕ = c.args.address in sym (le-leb a (memory_end l) (omega arith))

pub returns-then-words-ge4611686018427387904 : goal.returns-then-words-ge4611686018427387904
returns-then-words-ge4611686018427387904 c = let l = c.args.lengths in let a : ℕ = c.args.address in sym (le-leb a (memory_end l) (omega arith))

pub returns-then-address-start-2 : goal.returns-then-address-start-2
returns-then-address-start-2 c = let l = c.args.lengths in let a : ℕ = c.args.address in sym (le-leb a (memory_end l) (omega arith))

pub returns : goal.returns
returns c = let l = c.args.lengths in let a : ℕ = c.args.address in sym (lt-leb a (memory_end l) (omega arith))
