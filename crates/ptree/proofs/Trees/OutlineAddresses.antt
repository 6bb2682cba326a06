-- The items and the outline of a tree, by its addresses.
use Rattle.std.specs.Prelude.{slice_get, option_and_then, option_map, unwrap_or, IfOk, ◌↔◌}
use Rattle.std.proofs.Common.{◌≡◌, ℕ, zero, suc, ◌+◌, ◌≤◌, List, [], ◌∷◌, ◌++◌, map, Option, Some, Result, length, refl, sym, ap, subst, ◌∙◌, arith}
use Rattle.std.proofs.lemmas.List.{map-append}
use Rattle.std.proofs.lemmas.Result.{IfOk-weaker}
use Rattle.ptree.specs.Address.{Address, at}
use Rattle.ptree.specs.Outline.{Line, line, line_at, AreItems, IsOutline, outline_at, outline}
use Rattle.ptree.specs.Subtrees.{subtrees, subtrees_at}
use Rattle.ptree.specs.Tree.{Forest, none, item, Tree, tree, trees, tree_kids, tree_of, height}
use Rattle.ptree.specs.declared.item.StringItem.{StringItem}
use Rattle.ptree.proofs.Drawing.Addresses.{one_list, branches, walk, walk_is_list}
use Rattle.ptree.proofs.Trees.Outlines.{same_tree}
use Rattle.ptree.proofs.Trees.ItemTrees.{map_same, map_twice}

-- the level of an address in a tree at level n, and the tree there
abbrev level_item : ℕ → Tree → Address → ℕ × Option Tree
level_item n t a = (n + length a, at tree_kids t a)

-- a tree at a level, which is there
abbrev there : ℕ × Tree → ℕ × Option Tree
there p = (p.0, Some p.1)

-- what is at an address below a child is what is there in the child, one level deeper
child_item : (n k : ℕ) (t c : Tree) (a : Address) → slice_get (tree_kids t) k ≡ Some c → level_item n t (k ∷ a) ≡ level_item (suc n) c a
child_item n k t c a h =
    let level : n + suc (length a) ≡ suc n + length a = omega arith in
    let at_level : ℕ → ℕ × Option Tree = λ m. (m, at tree_kids t (k ∷ a)) in
    let below : Option Tree → ℕ × Option Tree = λ o. (suc n + length a, option_and_then (λ y. at tree_kids y a) o) in
    ap at_level level ∙ ap below h

-- walks over trees of this height list their items
WalksAreItems : ℕ → Type 0
WalksAreItems d = (n : ℕ) (t : Tree) → height t.children ≤ d → map (level_item n t) (walk tree_kids d t) ≡ map there ((n, t) ∷ subtrees_at (suc n) t.children)

-- the items at the addresses of a row of children
branch_items : (d : ℕ) → WalksAreItems d → (n : ℕ) (t : Tree) (k : ℕ) (f : Forest)
    → ((i : ℕ) → slice_get (trees f) i ≡ slice_get (tree_kids t) (k + i)) → height f ≤ suc d
    → map (level_item n t) (branches (walk tree_kids d) k (trees f)) ≡ map there (subtrees_at (suc n) f)
unfolding WalksAreItems
branch_items d ih n t k none h e = refl
branch_items d ih n t k (item x c r) h e =
    let here : k + 0 ≡ k = omega arith in
    let is : slice_get (tree_kids t) k ≡ Some (tree x c) = ap (slice_get (tree_kids t)) (sym here) ∙ sym (h 0) in
    let below : List Address = walk tree_kids d (tree x c) in
    let others : List Address = branches (walk tree_kids d) (suc k) (trees r) in
    let next : (i : ℕ) → slice_get (trees r) i ≡ slice_get (tree_kids t) (suc k + i) =
    λ i. let q : k + suc i ≡ suc k + i = omega arith in h (suc i) ∙ ap (slice_get (tree_kids t)) q in
    map-append (level_item n t) (map (λ a. k ∷ a) below) others
    ∙ (ap (λ z. z ++ map (level_item n t) others)
    (sym (map_twice (λ (a : Address). k ∷ a) (level_item n t) below)
    ∙ (map_same (λ a. level_item n t (k ∷ a)) (level_item (suc n) (tree x c)) (λ a. child_item n k t (tree x c) a is) below
    ∙ ih (suc n) (tree x c) (omega (arith, e))))
    ∙ (ap (λ z. map there ((suc n, tree x c) ∷ subtrees_at (suc (suc n)) c) ++ z) (branch_items d ih n t (suc k) r next (omega (arith, e)))
    ∙ sym (map-append there ((suc n, tree x c) ∷ subtrees_at (suc (suc n)) c) (subtrees_at (suc n) r))))

-- a row of no height has no items
no_items : (n : ℕ) (f : Forest) → height f ≤ 0 → [] ≡ subtrees_at n f
no_items n none h = refl
no_items n (item t c r) h = absurd (omega (arith, h))

-- the items at a tree's addresses are its items, to any depth
walk_items : (d : ℕ) → WalksAreItems d
unfolding WalksAreItems
walk_items zero n t h =
    let root : n + 0 ≡ n = omega arith in
    let alone : ℕ → List (ℕ × Option Tree) = λ m. (m, Some t) ∷ [] in
    ap alone root ∙ ap (λ z. map there ((n, t) ∷ z)) (no_items (suc n) t.children h)
walk_items (suc d) n t h =
    let root : n + 0 ≡ n = omega arith in
    let kids : (i : ℕ) → slice_get (tree_kids t) i ≡ slice_get (tree_kids t) (0 + i) =
    λ i. let q : i ≡ 0 + i = omega arith in ap (slice_get (tree_kids t)) q in
    let first : ℕ → List (ℕ × Option Tree) = λ m. (m, Some t) ∷ map (level_item n t) (branches (walk tree_kids d) 0 (tree_kids t)) in
    ap first root ∙ ap (λ z. there (n, t) ∷ z) (branch_items d (walk_items d) n t 0 t.children kids h)

-- the items of a tree stand at its addresses
pub items_of_tree : (t : Tree) → AreItems t (subtrees t)
unfolding WalksAreItems
items_of_tree t =
    let d = height t.children in
    let all : List Address = walk tree_kids d t in
    let here : Address → ℕ × Option Tree = λ a. (length a, at tree_kids t a) in
    let same : (a : Address) → here a ≡ level_item 0 t a =
    λ a. let q : length a ≡ 0 + length a = omega arith in let at_level : ℕ → ℕ × Option Tree = λ m. (m, at tree_kids t a) in ap at_level q in
    (all, walk_is_list tree_kids d t, sym (map_same here (level_item 0 t) same all ∙ walk_items d 0 t (omega arith)))

-- the line of an item
abbrev pub line_of : ℕ × Tree → Line
line_of p = line p.0 p.1.text

-- the line of an address, by what is there
abbrev found_line : ℕ × Option Tree → Line
found_line p = line p.0 (unwrap_or (option_map (λ (y : Tree). y.text) p.1) [])

-- the lines of a tree's items are its lines by addresses
pub lines_by_addresses : (t : Tree) (items : List (ℕ × Tree)) → AreItems t items → IsOutline t (map line_of items)
lines_by_addresses t items (list, is, same) =
    let here : Address → ℕ × Option Tree = λ a. (length a, at tree_kids t a) in
    (list, is, map_twice there found_line items ∙ (ap (map found_line) same ∙ sym (map_twice here found_line list)))

-- the lines of the items of a forest are its lines
forest_lines : (n : ℕ) (f : Forest) → map line_of (subtrees_at n f) ≡ outline_at n f
forest_lines n none = refl
forest_lines n (item t c r) =
    ap (λ z. line n t ∷ z) (map-append line_of (subtrees_at (suc n) c) (subtrees_at n r)
    ∙ (ap (λ z. z ++ map line_of (subtrees_at n r)) (forest_lines (suc n) c) ∙ ap (λ z. outline_at (suc n) c ++ z) (forest_lines n r)))

-- the lines of all addresses of a tree are its outline
same_lines : (t : Tree) → IsOutline t (outline t)
same_lines t = subst (IsOutline t) (ap (λ z. line 0 t.text ∷ z) (forest_lines 1 t.children)) (lines_by_addresses t (subtrees t) (items_of_tree t))

-- the outline by addresses is the outline by recursion
pub outline_of_tree : (t : Tree) (lines : List Line) → IsOutline t lines ↔ (lines ≡ outline t)
outline_of_tree t lines =
    let (all, list, is) = same_lines t in (
      λ h. h.2 ∙ (ap (map (line_at t)) (one_list tree_kids t (height t.children) h.0 all h.1 list) ∙ sym is),
      λ e. subst (IsOutline t) (sym e) (same_lines t),
    )

-- if a tree is made, it has the outline by addresses
pub made_outline : {E : Type 0} (r : Result StringItem E) (lines : List Line) → IfOk r (λ t. outline (tree_of t) ≡ lines) → IfOk r (λ t. IsOutline (tree_of t) lines)
made_outline r lines h = IfOk-weaker r _ _ (λ t e. (outline_of_tree (tree_of t) lines).1 (sym e)) h

-- no other tree has that outline
pub only_made : {E : Type 0} (r : Result StringItem E) (lines : List Line) → IfOk r (λ t. outline (tree_of t) ≡ lines) → IfOk r (λ t. (u : Tree) → IsOutline u lines → u ≡ tree_of t)
only_made r lines h =
    IfOk-weaker r _ _ (λ t e u is. same_tree u (tree_of t) (sym ((outline_of_tree u lines).0 is) ∙ sym e)) h
