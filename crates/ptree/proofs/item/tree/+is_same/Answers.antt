use Rattle.std.proofs.Common.{◌≡◌, ◌∙◌, List, true, ◌&&◌, map, ap, sym, subst, rules, string_bytes, arith}
use Rattle.std.proofs.lemmas.List.{drop_all}
use Rattle.std.specs.Str.{bytes_eq}
use Rattle.ptree.specs.Equality.{same_forest}
use Rattle.ptree.specs.Tree.{none, tree_of, forest}
use Rattle.ptree.specs.declared.item.StringItem.{StringItem, out-StringItem}
use Rattle.ptree.proofs.Trees.ItemTrees.{tree_of_item}
use Rattle.ptree.proofs.Trees.SameTrees.{none_test}
use Rattle.std.proofs.lemmas.Grind.{common_steps}
use Rattle.ptree.proofs.item.tree.+is_same.Goals as goal

pub returns : goal.returns
returns t c =
    let a = c.args.a.now in
    let b = c.args.b.now in
    let same = same_forest (tree_of a).children (tree_of b).children in
    let own : bytes_eq (string_bytes (out-StringItem a).text) (string_bytes (out-StringItem b).text) ≡ true = search (rules) in
    let texts : bytes_eq (tree_of a).text (tree_of b).text ≡ true = rw (tree_of_item a, tree_of_item b) own in
    let left : same_forest none (forest (map tree_of c.loop-child.rest.now)) ≡ same = subst (λ (xs : List StringItem). same_forest (forest (map tree_of xs)) (forest (map tree_of c.loop-child.rest.now)) ≡ same) (drop_all c.loop-child.child-index c.deref-child-items.result.now c.loop-child-test.false) c.loop-child.invariant in
    let empty : c.is_empty.result ≡ same_forest none (forest (map tree_of c.loop-child.rest.now)) = c.is_empty.ensures ∙ none_test tree_of c.loop-child.rest.now in
    empty ∙ left ∙ ap (λ z. z && same) (sym texts)

pub returns-in_default : goal.returns-in_default
returns-in_default t c = grind (arith, common_steps)

pub returns-then-not-is_same : goal.returns-then-not-is_same
returns-then-not-is_same t c = grind (arith, common_steps)

pub loop-child-preserved : goal.loop-child-preserved
loop-child-preserved t c = grind (arith, common_steps)
