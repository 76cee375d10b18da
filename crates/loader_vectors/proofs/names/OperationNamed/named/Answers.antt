use Rattle.std.proofs.Common.{rules, ◌∙◌}
use Rattle.std.proofs.lemmas.Iterator.{YieldsList-from_slice}
use Rattle.std.proofs.lemmas.Iterator.Search.{find_from_yields_List}
use Rattle.lists.specs.Bytes.{same_bytes}
use Rattle.tables.proofs.Names.{named_by}
use Rattle.loader_vectors.specs.Names.{name_of}
use Rattle.loader_vectors.proofs.Every.{all, every}
use Rattle.loader_vectors.proofs.names.OperationNamed.named.Goals as goal

pub returns : goal.returns
returns c =
    let name = c.args.name.now in
    let found = find_from_yields_List (λ o. same_bytes (name_of o) name) _ _ _ c.find.ensures.ran (YieldsList-from_slice all cc) (λ x b q k. search rules) in
    named_by name_of all every name _ (c.copied.ensures ∙ found)
