use Prim.Native.Nat.{ℕ, ◌+◌, ◌*◌, ◌%◌, ◌^◌}
use mathlib.Core.Path.{ap, ◌≡◌, sym, ◌∙◌}
use native.Mathlib.Omega.{arith}
use lib.ListN.{length}
use Rattle.lists.proofs.Laws.{lay-nil, lay-whole, put-lay}
use Rattle.fields.specs.Words.{word}
use Rattle.esp_commands.specs.Block.{payload}
use Rattle.loader_blocks.specs.Memory.{words_of}
use Rattle.loader_blocks.proofs.Memory.{packed-next, length-words}
use Rattle.loader_blocks.proofs.pack_at.Goals as goal

pub loop-i-init : goal.loop-i-init
unfolding words_of
loop-i-init c = sym (lay-nil _ _)

pub loop-i-preserved : goal.loop-i-preserved
loop-i-preserved c = let l = c.loop-i in
    let e : l.i * 4 % 2 ^ 64 ≡ 4 * l.i = omega arith in
    rw l.invariant (packed-next _ c.args.packet.now l.i _ (omega arith) (c.word_at.ensures ∙ ap (λ (k : ℕ). word c.args.packet.now (24 + k)) e))

pub returns : goal.returns
returns c = let a = c.args in let n = a.n in let ws = words_of (payload a.packet.now) n in
    let k : c.loop-i.i ≡ n = omega arith in
    let h : length ws ≡ n = length-words (payload a.packet.now) n in
    let w : c.loop-i.word-items ≡ ws = c.loop-i.invariant ∙ rw k (lay-whole _ ws (omega (arith, h))) in
    rw w (put-lay _ a.at (a.at + n) ws (omega arith) (omega (arith, h)))
