use Rattle.std.proofs.Common.{ℕ, List, Some, subst}
use Rattle.trees.specs.Documents.{IsLastPart}
use Rattle.trees.proofs.source.Source.label.Goals as goal

pub returns-in-Some : goal.returns-in-Some
returns-in-Some c =
    let found = c.in-Some.ensures.cases in
    subst (λ (path : List ℕ). IsLastPart path c.in-Some.last.now) c.as_str-name.ensures.value (Some (found.0, found.1), found.2, found.4)
