use Rattle.std.specs.Borrow.{Bor}
use Rattle.std.specs.Prelude.{option_map, IfSome}
use Rattle.std.proofs.Common.{◌≡◌, ◌∙◌, Option, Some, None, ap, sym, subst}
use Rattle.ptree.specs.declared.item.StringItem.{StringItem}
use Rattle.ptree.specs.Address.{Address, at}
use Rattle.ptree.specs.Tree.{Tree, tree_kids, tree_of}
use Rattle.ptree_trees.specs.Difference.{DifferAt}
use Rattle.examples.proofs.comparing.original.Goals as goal

-- what stands at an address at which two trees differ, if it is there
where_they_differ : (t u base : Tree) (a : Address) (o : Option (Bor StringItem)) → DifferAt t u a → option_map (λ s. tree_of s.now) o ≡ at tree_kids base a
    → IfSome o (λ s. (b : Address) × DifferAt t u b × (at tree_kids base b ≡ Some (tree_of s.now)))
where_they_differ t u base a None d e = tt
where_they_differ t u base a (Some s) d e = (a, d, sym e)

pub returns : goal.returns
returns c =
    let t = tree_of c.args.left.now in
    let u = tree_of c.args.right.now in
    let base = tree_of c.args.tree.now in
    let found = c.in-Some.found in
    let differ = subst (λ o. IfSome o (λ f. DifferAt t u f.address.items)) c.in-Some.is c.in_ok-found.ensures.differ in
    where_they_differ t u base found.address.items c.at_address.result differ (c.at_address.ensures ∙ ap (at tree_kids base) c.deref.ensures.value)
