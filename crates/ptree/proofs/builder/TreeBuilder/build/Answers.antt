use Rattle.std.proofs.Common.{ap}
use Rattle.ptree.proofs.Trees.OutlineAddresses.{made_outline, only_made}
use Rattle.ptree.proofs.builder.TreeBuilder.build.Goals as goal

pub returns-clause-outline : goal.returns-clause-outline
returns-clause-outline c =
    let told = rw (c.as_str.ensures.value, c.as_slice.ensures.value, ap (λ b. b.outline) c.self.view_is) at c.tree_from_outline.ensures in
    made_outline _ _ told

pub returns-clause-unique : goal.returns-clause-unique
returns-clause-unique c =
    let told = rw (c.as_str.ensures.value, c.as_slice.ensures.value, ap (λ b. b.outline) c.self.view_is) at c.tree_from_outline.ensures in
    only_made _ _ told
