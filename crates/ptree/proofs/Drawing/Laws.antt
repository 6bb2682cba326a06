-- Laws of drawings.
use Rattle.std.specs.Prelude.{◌↔◌, slice_get, option_and_then, nat_lt, flat_map}
use Rattle.std.specs.List.{concat, range_with_len}
use Rattle.std.proofs.Common.{◌≡◌, ℕ, zero, suc, ◌≤◌, true, cond, List, [], ◌∷◌, ◌++◌, map, Option, Some, None, length, sym, ◌∙◌, ap, subst, refl, append_assoc, arith}
use Rattle.std.proofs.lemmas.Bool.Decides.{nat_tests}
use Rattle.std.proofs.lemmas.List.{append-nil, map-id}
use Rattle.ptree.specs.Address.{Address, at, is_last}
use Rattle.ptree.specs.Drawing.{Look, passing_text, entry_from, entry_text, IsDrawing}
use Rattle.ptree.specs.DrawnForm.{IsDrawnForm}
use Rattle.ptree.specs.Laws.{HasOneList, entry_after}
use Rattle.ptree.specs.Entries.{is_empty, shape_entry, with_below, kid_entries, entries_below, drawn_entries}
use Rattle.ptree.specs.Pieces.{turning_piece, passing_piece}
use Rattle.ptree.specs.Shape.{Shape, child, kids, cut_shape}
use Rattle.ptree.specs.Tree.{Tree, shape_of_tree}
use Rattle.ptree.proofs.Drawing.Addresses.{one_list, walk, walk_is_list}
use Rattle.ptree.proofs.Drawing.Join.{join, drawn_is_drawing, entry_under, passing_child}
use Rattle.ptree.proofs.Trees.ItemTrees.{map_same, map_twice}

-- ## Cut

-- functions with equal values are equal
same_functions : {A B : Type 0} (f g : A → B) → ((x : A) → f x ≡ g x) → f ≡ g
same_functions f g h = λ i x. h x i

-- a comparison of successors
pub less_suc : (m d : ℕ) → nat_lt (suc m) (suc d) ≡ nat_lt m d
less_suc m d = grind (arith, nat_tests)

-- zero is below each successor
none_above : (d : ℕ) → nat_lt 0 (suc d) ≡ true
none_above d = grind (arith, nat_tests)

-- a child of a cut shape is the child, cut one level lower
child_of_cut : (d : ℕ) (t : Shape) (i : ℕ) → child (cut_shape (suc d) t) i ≡ cut_shape d (child t i)
child_of_cut d t i =
    ap (λ (f : Address → ℕ). let r : Shape = record { own = λ a. t.own (i ∷ a); count = f } in r)
    (same_functions _ _ (λ (a : Address). ap (λ b. cond b (t.count (i ∷ a)) 0) (less_suc (length a) d)))

-- the children of a cut shape are the children, each cut at one less
pub kids_of_cut : (d : ℕ) (t : Shape) → kids (cut_shape (suc d) t) ≡ map (cut_shape d) (kids t)
kids_of_cut d t =
    ap (λ b. map (child (cut_shape (suc d) t)) (range_with_len 0 (cond b (t.count []) 0))) (none_above d)
    ∙ map_same (child (cut_shape (suc d) t)) (λ i. cut_shape d (child t i)) (child_of_cut d t) (range_with_len 0 (t.count []))
    ∙ map_twice (child t) (cut_shape d) (range_with_len 0 (t.count []))

-- a map keeps whether a list is empty
is_empty-map : {X Y : Type 0} (f : X → Y) (xs : List X) → is_empty (map f xs) ≡ is_empty xs
is_empty-map f [] = refl
is_empty-map f (x ∷ xs) = refl

-- two lists of children that are drawn alike have the same entries
pub kid_entries-map : {C : Type 0} (look : Look) (f g : C → Shape) (below below' : List ℕ → Shape → List (List ℕ)) → ((c : C) → (f c).own [] look.leaf ≡ (g c).own [] look.leaf) → ((outer : List ℕ) (c : C) → below' outer (f c) ≡ below outer (g c))
    → (outer : List ℕ) (cs : List C) → kid_entries look below' outer (map f cs) ≡ kid_entries look below outer (map g cs)
kid_entries-map look f g below below' o h outer [] = refl
kid_entries-map look f g below below' o h outer (c ∷ cs) =
    let last = is_empty (map g cs) in
    let turned = outer ++ turning_piece look.pieces last in
    let passed = outer ++ passing_piece look.pieces last in
    ap (λ l. with_below look below' outer l (f c) ++ kid_entries look below' outer (map f cs)) (is_empty-map f cs ∙ sym (is_empty-map g cs))
    ∙ ap (λ t. (entry_from look turned passed t ∷ below' passed (f c)) ++ kid_entries look below' outer (map f cs)) (o c)
    ∙ ap (λ t. (shape_entry look turned passed (g c) ∷ t) ++ kid_entries look below' outer (map f cs)) (h passed c)
    ∙ ap (λ t. with_below look below outer last (g c) ++ t) (kid_entries-map look f g below below' o h outer cs)

-- the entries below a cut shape are those below the shape, down to the cut
entries_of_cut : (look : Look) (d e : ℕ) → d ≤ e → (outer : List ℕ) (t : Shape) → entries_below look e outer (cut_shape d t) ≡ entries_below look d outer t
entries_of_cut look zero zero h outer t = refl
entries_of_cut look zero (suc e) h outer t = refl
entries_of_cut look (suc d) zero h outer t = absurd (omega arith)
entries_of_cut look (suc d) (suc e) h outer t =
    ap (kid_entries look (entries_below look e) outer) (kids_of_cut d t)
    ∙ kid_entries-map look (cut_shape d) (λ x. x) (entries_below look d) (entries_below look e) (λ x. refl) (λ f x. entries_of_cut look d e (omega arith) f x) outer (kids t)
    ∙ ap (kid_entries look (entries_below look d) outer) (map-id (kids t))

-- exactly one list is the address list
pub exactly_one_list : (x : Shape) (d : ℕ) → HasOneList x d
exactly_one_list x d = (walk kids d x, walk_is_list kids d x, λ other h. one_list kids x d other (walk kids d x) h (walk_is_list kids d x))

-- only one text is the drawing
pub one_drawing : (look : Look) (x : Shape) (d : ℕ) (text : List ℕ) → IsDrawing look x d text → text ≡ concat (drawn_entries look d x)
one_drawing look x d text h = h.2 ∙ ap (flat_map (entry_text look x)) (one_list kids x d h.0 (walk kids d x) h.1 (walk_is_list kids d x)) ∙ join look d x

-- a drawing of the tree of a text in its drawn form is the text
pub drawn_form_again : (look : Look) (depth : ℕ) (x y : List ℕ) (t : Tree) → IsDrawnForm look depth x t → IsDrawing look (shape_of_tree t) depth y → y ≡ x
drawn_form_again look depth x y t form drawn = one_drawing look (shape_of_tree t) depth y drawn ∙ sym (one_drawing look (shape_of_tree t) depth x form.drawn)

-- shapes with the same entries have the same drawings
pub same_drawings : (look : Look) (x y : Shape) (d e : ℕ) → drawn_entries look d x ≡ drawn_entries look e y → (text : List ℕ) → IsDrawing look x d text ↔ IsDrawing look y e text
same_drawings look x y d e h text = (
  λ k. subst (λ (z : List ℕ). IsDrawing look y e z) (sym (one_drawing look x d text k ∙ ap concat h)) (drawn_is_drawing look e y),
  λ k. subst (λ (z : List ℕ). IsDrawing look x d z) (sym (one_drawing look y e text k ∙ ap concat (sym h))) (drawn_is_drawing look d x),
)

-- the drawings at a depth are those of the cut shape at any greater depth
pub drawing_of_cut : (look : Look) (d e : ℕ) (t : Shape) (text : List ℕ) → d ≤ e → IsDrawing look t d text ↔ IsDrawing look (cut_shape d t) e text
drawing_of_cut look d e t text h =
    same_drawings look t (cut_shape d t) d e (sym (ap (λ y. shape_entry look [] [] t ∷ y) (entries_of_cut look d e h [] t))) text

-- ## Subtree

-- the entry at an address below a is the entry of the item at a drawn alone, after a's passing text
pub entry_below : (look : Look) (outer : List ℕ) (x y : Shape) (a : Address) (j : ℕ) (r : Address) → at kids x a ≡ Some y
    → entry_after look outer x (a ++ j ∷ r) ≡ entry_after look (outer ++ passing_text look x a) y (j ∷ r)
entry_below look outer x y [] j r h =
    let same : x ≡ y = cc in
    ap (λ z. entry_after look outer z (j ∷ r)) same ∙ ap (λ z. entry_after look z y (j ∷ r)) (sym (append-nil outer))
entry_below look outer x y (i ∷ a) j r h =
    let s = found (slice_get (kids x) i) (λ c. at kids c a) y h in
    let rest = headed a j r in
    ap (λ b. entry_after look outer x (i ∷ b)) rest.2
    ∙ entry_under look outer x s.0 i rest.0 rest.1 (is_last kids x (i ∷ [])) s.1 refl
    ∙ ap (λ b. entry_after look (outer ++ passing_piece look.pieces (is_last kids x (i ∷ []))) s.0 b) (sym rest.2)
    ∙ entry_below look (outer ++ passing_piece look.pieces (is_last kids x (i ∷ []))) s.0 y a j r s.2
    ∙ ap (λ z. entry_after look z y (j ∷ r)) (append_assoc outer (passing_piece look.pieces (is_last kids x (i ∷ []))) (passing_text look s.0 a) ∙ ap (λ z. outer ++ z) (sym (passing_child look x s.0 i a s.1)))
  where
    found : {X Y : Type 0} (o : Option X) (f : X → Option Y) (y : Y) → option_and_then f o ≡ Some y → (c : X) × (o ≡ Some c) × (f c ≡ Some y)
    found None f y h = absurd (cc)
    found (Some c) f y h = (c, refl, h)

    headed : (a : Address) (j : ℕ) (r : Address) → (k : ℕ) × (q : Address) × (a ++ j ∷ r ≡ k ∷ q)
    headed [] j r = (j, r, refl)
    headed (k ∷ a) j r = (k, a ++ j ∷ r, refl)
