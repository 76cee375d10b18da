use Rattle.std.proofs.Common.{◌≡◌, refl, Bool, true, false, cond, Some, None, ◌∷◌, [], ◌∙◌, ap}
use Rattle.std.specs.Bool.{then_some}
use Rattle.lists.specs.Bytes.{same_bytes}
use Rattle.tables.proofs.Names.{named_by}
use Rattle.loader_cuts.specs.Names.{name_of}
use Rattle.loader_cuts.proofs.cuts.CutsNamed.named.Goals as goal

by_cases : {T : Type 0} (b : Bool) (x : T) → then_some b x ≡ cond b (Some x) None
by_cases true x = refl
by_cases false x = refl

pub returns : goal.returns
unfolding same_bytes
returns c =
    named_by name_of (record {} ∷ []) (λ o. refl) c.args.name.now _
    (c.then_some.ensures ∙ by_cases c.same.result _ ∙ ap (λ b. cond b (Some _) None) c.same.ensures)
