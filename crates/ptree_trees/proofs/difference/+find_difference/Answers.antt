use Rattle.std.proofs.Common.{◌≡◌, ◌∙◌, ℕ, ◌<◌, List, length, get_or, ◌∷◌, ◌++◌, [], Some, None, sym, ap, subst, reverse, arith, rules}
use Rattle.std.specs.Prelude.{option_map, slice_get}
use Rattle.ptree.specs.declared.item.StringItem.{StringItem, out-StringItem}
use Rattle.std.proofs.lemmas.List.{reverse-append}
use Rattle.ptree.specs.Address.{Address}
use Rattle.ptree.specs.Tree.{tree_kids, tree_of}
use Rattle.ptree_trees.specs.Found.{IsFound, IsFirst}
use Rattle.ptree.proofs.Trees.ItemTrees.{child_there, child_not_there}
use Rattle.ptree_trees.proofs.Differences.{differ_at_child, differ_below, same_to_next, same_to_end}
use Rattle.ptree_trees.proofs.difference.+find_difference.Goals as goal

-- each of two trees has a child at a position: the item that was found there
both_there : (a b x y : StringItem) (xs ys : List StringItem) (i : ℕ) → xs ≡ (out-StringItem a).children.items → ys ≡ (out-StringItem b).children.items
    → i < length xs → x ≡ get_or xs i x → i < length ys → y ≡ get_or ys i y
    → (slice_get (tree_kids (tree_of a)) i ≡ Some (tree_of x)) × (slice_get (tree_kids (tree_of b)) i ≡ Some (tree_of y))
both_there a b x y xs ys i left right within is other_within other_is = (child_there a xs i x left within is, child_there b ys i y right other_within other_is)

pub returns-in_default : goal.returns-in_default
returns-in_default t c =
    let i = c.loop-i.i in
    let left = child_there c.args.left.now c.deref-child-items.result.now i c.child-item.result c.deref-child-items.ensures.value c.loop-i-test.true c.child-item.is in
    let right = child_not_there c.args.right.now c.deref.result.now i c.deref.ensures.value (omega (arith, c.in_default.ensures.lookup)) in
    let items : c.in_ok-vec.field-0.items ≡ i ∷ [] = search rules in
    let first = differ_at_child _ _ i (Some (tree_of c.child-item.result)) None c.loop-i.invariant left right (λ e. (cc)) in
    subst (IsFound (tree_of c.args.left.now) (tree_of c.args.right.now)) (sym c.found_at-in_default.ensures) (rw items first)

pub returns-in-Some-2 : goal.returns-in-Some-2
returns-in-Some-2 t c =
    let left = tree_of c.args.left.now in
    let right = tree_of c.args.right.now in
    let i = c.loop-i.i in
    let d = c.in-Some-2.found in
    let both = both_there c.args.left.now c.args.right.now c.child-item.result c.in-Some.other.now c.deref-child-items.result.now c.deref.result.now i
    c.deref-child-items.ensures.value c.deref.ensures.value c.loop-i-test.true c.child-item.is (omega (arith, c.in-Some.ensures.lookup)) c.in-Some.ensures.lookup.1 in
    let found = subst (λ o. IsFound (tree_of c.child-item.result) (tree_of c.in-Some.other.now) o) c.in-Some-2.is c.in_ok-found.ensures in
    let first = differ_below left right (tree_of c.child-item.result) (tree_of c.in-Some.other.now) i _ _ _ c.loop-i.invariant both.0 both.1 found in
    let items : c.push.new.self.items ≡ d.address.items ++ i ∷ [] = search rules in
    let address = ap reverse items ∙ reverse-append d.address.items (i ∷ []) in
    subst (λ (z : Address). IsFirst left right z (option_map (λ s. tree_of s.now) d.left) (option_map (λ s. tree_of s.now) d.right)) (sym address) first

pub loop-i-preserved : goal.loop-i-preserved
loop-i-preserved t c =
    let both = both_there c.args.left.now c.args.right.now c.child-item.result c.in-Some.other.now c.deref-child-items.result.now c.deref.result.now c.loop-i.i
    c.deref-child-items.ensures.value c.deref.ensures.value c.loop-i-test.true c.child-item.is (omega (arith, c.in-Some.ensures.lookup)) c.in-Some.ensures.lookup.1 in
    let same = subst (λ o. IsFound (tree_of c.child-item.result) (tree_of c.in-Some.other.now) o) c.in_default-2.is c.in_ok-found.ensures in
    same_to_next _ _ _ _ _ c.loop-i.invariant both.0 both.1 same

pub returns-in_default-get : goal.returns-in_default-get
returns-in_default-get t c =
    let left = child_not_there c.args.left.now c.deref-child-items.result.now c.loop-i.i c.deref-child-items.ensures.value (omega arith) in
    let right = child_not_there c.args.right.now c.deref-2.result.now c.loop-i.i c.deref-2.ensures.value (omega (arith, c.in_default-get.ensures.lookup)) in
    same_to_end _ _ _ c.loop-i.invariant left right

pub returns : goal.returns
returns t c =
    let i = c.loop-i.i in
    let y = c.in-Some-get.other.now in
    let last : c.len.result ≡ i = omega arith in
    let left = child_not_there c.args.left.now c.deref-child-items.result.now i c.deref-child-items.ensures.value (omega arith) in
    let found = c.in-Some-get.ensures.lookup in
    let there = subst (λ (k : ℕ). y ≡ get_or c.deref-2.result.now k y) last found.1 in
    let right = child_there c.args.right.now c.deref-2.result.now i y c.deref-2.ensures.value (omega (arith, found)) there in
    let position : c.len-2.result ≡ i = omega arith in
    let items : c.in_ok-end.end.items ≡ i ∷ [] = cc (c.in_ok-end.ensures.items) in
    let first = differ_at_child _ _ i None (Some (tree_of y)) c.loop-i.invariant left right (λ e. (cc)) in
    subst (IsFound (tree_of c.args.left.now) (tree_of c.args.right.now)) (sym c.found_at-2.ensures) (rw items first)
