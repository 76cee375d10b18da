use mathlib.Core.Path.{refl, sym, ◌∙◌}
use lib.Seq.{length-take-le}
use Rattle.loader_state.proofs.LetPass.{refusal-nonzero}
use Rattle.loader_run.proofs.Calls.{refused, bytes-taken, packet-broken, whole-fits, packet-acted}
use Rattle.loader_run.proofs.feed_run.Goals as goal

pub returns-in-Err : goal.returns-in-Err
returns-in-Err c =
    refused _ _ _ _ _ _ _ (c.from.ensures ∙ c.in-Err.ensures) (λ z. refusal-nonzero c.in-Err.refusal (sym c.from.ensures ∙ z))

pub slice_bounds-act-end : goal.slice_bounds-act-end
slice_bounds-act-end c = let a = c.args in
    whole-fits _ a.run.now a.packet.now a.answer.now a.flash.now a.words.now _ c.in_default.ensures refl _ _ c.run-ran.ensures _ c.in-Whole.is c.run-ran.auto.buffer

pub slice_bounds-act-end-in-Whole : goal.slice_bounds-act-end-in-Whole
slice_bounds-act-end-in-Whole c = let a = c.args in
    sym (length-take-le _ _ (whole-fits _ a.run.now a.packet.now a.answer.now a.flash.now a.words.now _ c.in_default.ensures refl _ _ c.run-ran.ensures _ c.in-Whole.is c.run-ran.auto.buffer))

pub returns-in-Open : goal.returns-in-Open
returns-in-Open c = bytes-taken _ _ _ _ _ _ _ c.in_default.ensures refl _ _ c.run-ran.ensures c.in-Open.is

pub returns-in-Whole : goal.returns-in-Whole
returns-in-Whole c = let a = c.args in
    packet-acted _ a.run.now a.packet.now a.answer.now a.flash.now a.words.now _ c.in_default.ensures refl _ _ c.run-ran.ensures _ _ _ _ _ c.in-Whole.is c.run-ran.auto.buffer c.act-acted.ensures

pub returns-in-Broken : goal.returns-in-Broken
returns-in-Broken c = packet-broken _ _ _ _ _ _ _ c.in_default.ensures refl _ _ c.run-ran.ensures _ _ c.in-Broken.is
