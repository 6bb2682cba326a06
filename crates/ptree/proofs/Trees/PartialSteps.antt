-- The steps by which trees are made line by line.
use Rattle.std.proofs.Common.{◌≡◌, ℕ, ◌+◌, List, [], ◌∷◌, ◌++◌, length, length-append, map, take, drop, sym, ap, ◌∙◌, refl, subst, arith}
use Rattle.std.proofs.lemmas.List.{length-take-le}
use Rattle.std.specs.Prelude.{string_bytes}
use Rattle.ptree.specs.Outline.{Line, line, outline, Steps}
use Rattle.ptree.specs.PartialTree.{row_lines, lines_from, Ascend, HasOneRoot}
use Rattle.ptree.specs.Tree.{tree, forest, tree_of}
use Rattle.ptree.specs.declared.item.StringItem.{StringItem}
use Rattle.ptree.specs.declared.builder.partial.Parent.{Parent}
use Rattle.ptree.proofs.Trees.PartialTrees.{ascend_more, ascend_pop, outline_under, root_lines_push, root_lines_close}

-- ## Steps

-- how many parents there are
pub parents_count : (ps qs : List Parent) (p : Parent) → ps ≡ qs ++ p ∷ [] → length ps ≡ length qs + 1
parents_count ps qs p e = ap length e ∙ length-append qs (p ∷ [])

-- the last parent was closed over the items after it
pub closed_over : (ps qs : List Parent) (p : Parent) (closed kept new children : List StringItem) (x : StringItem) → ps ≡ qs ++ p ∷ [] → kept ≡ take p.first closed → children ≡ drop p.first closed → new ≡ kept ++ x ∷ []
    → tree_of x ≡ tree (string_bytes p.text) (forest (map tree_of children)) → Ascend 0 ps (length closed)
    → Ascend 0 qs (length new) × (lines_from 0 0 qs new ≡ lines_from 0 0 ps closed)
closed_over ps qs p closed kept new children x e kept_is children_is new_is x_is h =
    let ascend : Ascend 0 (qs ++ p ∷ []) (length closed) = subst (λ z. Ascend 0 z (length closed)) e h in
    let left = ascend_pop 0 qs p (length closed) ascend in
    let high = left.1 in
    let is : new ≡ take p.first closed ++ x ∷ [] = new_is ∙ ap (λ z. z ++ x ∷ []) kept_is in
    let count : length new ≡ p.first + 1 = ap length is ∙ (length-append (take p.first closed) (x ∷ []) ∙ ap (λ k. k + 1) (length-take-le p.first closed high)) in (
      ascend_more 0 qs p.first (length new) left.0 (omega (arith, count, high)),
      ap (lines_from 0 0 qs) is ∙ (root_lines_close qs p closed x ascend (x_is ∙ ap (λ z. tree (string_bytes p.text) (forest (map tree_of z))) children_is) ∙ ap (λ z. lines_from 0 0 z closed) (sym e)),
    )

-- the root stays if it was not the last parent
root_left : (qs : List Parent) (p : Parent) (closed pushed kept : List StringItem) → kept ≡ take p.first pushed → HasOneRoot (qs ++ p ∷ []) closed → HasOneRoot qs kept
root_left [] p closed pushed kept is h = is ∙ ap (λ k. take k pushed) h
root_left (q ∷ qs) p closed pushed kept is h = h

-- the items that were read, and the tree at hand below the last parent, have these lines
pub record IsFinishing (lines : List Line) (parents : List Parent) (closed : List StringItem) (item : StringItem) : Type 0 where
  pub ascend : Ascend 0 parents (length closed)
  pub root : HasOneRoot parents closed
  pub lines_are : lines_from 0 0 parents closed ++ outline_under (length parents) (tree_of item) ≡ lines

-- the last parent was closed over it
pub finishing_more : (lines : List Line) (ps qs : List Parent) (p : Parent) (closed pushed kept children : List StringItem) (item x : StringItem) → ps ≡ qs ++ p ∷ [] → pushed ≡ closed ++ item ∷ []
    → kept ≡ take p.first pushed → children ≡ drop p.first pushed → tree_of x ≡ tree (string_bytes p.text) (forest (map tree_of children))
    → IsFinishing lines ps closed item → IsFinishing lines qs kept x
finishing_more lines ps qs p closed pushed kept children item x e pushed_is kept_is children_is x_is h =
    let count : length pushed ≡ length closed + 1 = ap length pushed_is ∙ length-append closed (item ∷ []) in
    let ascend : Ascend 0 ps (length pushed) = ascend_more 0 ps (length closed) (length pushed) h.ascend (omega (arith, count)) in
    let left = ascend_pop 0 qs p (length pushed) (subst (λ z. Ascend 0 z (length pushed)) e ascend) in
    let high = left.1 in
    let few : length kept ≡ p.first = ap length kept_is ∙ length-take-le p.first pushed high in
    let over = closed_over ps qs p pushed kept (kept ++ x ∷ []) children x e kept_is children_is refl x_is ascend in
    let kept_ascend : Ascend 0 qs (length kept) = ascend_more 0 qs p.first (length kept) left.0 (omega (arith, few, high)) in
    record {
      ascend = kept_ascend;
      root = root_left qs p closed pushed kept kept_is (subst (λ z. HasOneRoot z closed) e h.root);
      lines_are = sym (root_lines_push qs kept x kept_ascend) ∙ (over.1 ∙ (ap (lines_from 0 0 ps) pushed_is ∙ (root_lines_push ps closed item h.ascend ∙ h.lines_are)));
    }

-- the tree of all items
pub finished : (lines : List Line) (closed : List StringItem) (item : StringItem) → IsFinishing lines [] closed item → outline (tree_of item) ≡ lines
finished lines closed item h = ap (λ z. row_lines 0 z ++ outline (tree_of item)) (sym h.root) ∙ h.lines_are

-- nothing is before what is below the root
root_first : (ps qs : List Parent) (p : Parent) (closed : List StringItem) → ps ≡ qs ++ p ∷ [] → qs ≡ [] → HasOneRoot ps closed → p.first ≡ 0
root_first ps qs p closed e none h =
    let alone : ps ≡ p ∷ [] = e ∙ ap (λ z. z ++ p ∷ []) none in
    subst (λ z. HasOneRoot z closed) alone h

-- the root was closed over all of them
pub root_finished : (lines : List Line) (ps qs : List Parent) (p : Parent) (closed pushed children : List StringItem) (item x : StringItem) → ps ≡ qs ++ p ∷ [] → qs ≡ [] → pushed ≡ closed ++ item ∷ [] → children ≡ pushed
    → tree_of x ≡ tree (string_bytes p.text) (forest (map tree_of children)) → IsFinishing lines ps closed item → outline (tree_of x) ≡ lines
root_finished lines ps qs p closed pushed children item x e none pushed_is children_is x_is h =
    let first = root_first ps qs p closed e none h.root in
    let all : children ≡ drop p.first pushed = children_is ∙ ap (λ k. drop k pushed) (sym first) in
    let more = finishing_more lines ps qs p closed pushed (take p.first pushed) children item x e pushed_is refl all x_is h in
    finished lines (take p.first pushed) x (subst (λ z. IsFinishing lines z (take p.first pushed) x) none more)

-- the line of a leaf
pub leaf_lines : (n : ℕ) (text : List ℕ) → outline_under n (tree text (forest [])) ≡ line n text ∷ []
leaf_lines n text = refl

-- ## Lines one by one

-- those so far, the one at hand and those that are left are all, and each is at most one level below the one before it
pub record IsBuilding (all done : List Line) (level : ℕ) (text : List ℕ) (left : List Line) : Type 0 where
  pub lines_are : done ++ line level text ∷ left ≡ all
  pub steps : Steps level left
