-- The drawing by recursion is the entries over the address list, joined.
use Rattle.std.specs.Prelude.{slice_get, option_and_then, option_map, unwrap_or, is_none, flat_map}
use Rattle.std.proofs.Common.{◌≡◌, ℕ, zero, suc, ◌+◌, inl, inr, Bool, List, [], ◌∷◌, ◌++◌, map, Option, Some, Result, ◌-◌, take, sym, ◌∙◌, ap, subst, refl, append_assoc, arith}
use Rattle.std.proofs.lemmas.List.Folds.{flat_map-map}
use Rattle.std.specs.List.{concat}
use Rattle.ptree.specs.Address.{Address, at, next_sibling, is_last, prefixes, parent}
use Rattle.ptree.specs.Drawing.{Look, passing_text, prefix_text, entry_from, own_at, entry_text, IsDrawing}
use Rattle.ptree.specs.Laws.{entry_after}
use Rattle.ptree.specs.Entries.{is_empty, shape_entry, with_below, kid_entries, entries_below, drawn_entries}
use Rattle.ptree.specs.Pieces.{turning_piece, passing_piece}
use Rattle.ptree.specs.Shape.{Shape, kids}
use Rattle.ptree.specs.declared.sink.DrawError.{DrawError}
use Rattle.ptree.specs.Writing.{AreWritten}
use Rattle.std.specs.Io.KnownBytes.{Appends}
use Rattle.std.proofs.lemmas.List.{append-nil, map-append, take-map}
use Rattle.ptree.proofs.Sinks.Written.{entry_then}
use Rattle.ptree.proofs.Trees.ItemTrees.{map_twice}
use Rattle.ptree.proofs.Drawing.Addresses.{In, branches, walk, in_branches, walk_is_list}

-- functions that are equal on a list map it to the same
map_same : (g h : Address → List ℕ) (xs : List Address) → ((a : Address) → In a xs → g a ≡ h a) → map g xs ≡ map h xs
map_same g h [] f = refl
map_same g h (x ∷ xs) f =
    ap (λ t. t ∷ map g xs) (f x (inl refl)) ∙ ap (λ t. h x ∷ t) (map_same g h xs (λ a k. f a (inr k)))

-- there is no next sibling exactly if there are no later children
is_none-at : {X : Type 0} (kids : X → List X) (x : X) (n : ℕ) (cs : List X) → slice_get cs 0 ≡ slice_get (kids x) (suc n) → is_none (at kids x (suc n ∷ [])) ≡ is_empty cs
is_none-at kids x n cs h = ap (λ o. is_none (option_and_then (λ c. Some c) o)) (sym h) ∙ first cs
  where
    first : {X : Type 0} (cs : List X) → is_none (option_and_then (λ (c : X). Some c) (slice_get cs 0)) ≡ is_empty cs
    first [] = refl
    first (c ∷ cs) = refl

-- the steps below a child are the child's own
at_child : {X : Type 0} (kids : X → List X) (x c : X) (n : ℕ) (a : Address) → slice_get (kids x) n ≡ Some c → at kids x (n ∷ a) ≡ at kids c a
at_child kids x c n a h = ap (option_and_then (λ y. at kids y a)) h

-- an address below a child is a last one exactly if it is in the child
last_child : {X : Type 0} (kids : X → List X) (x c : X) (n j : ℕ) (r : Address) → slice_get (kids x) n ≡ Some c → is_last kids x (n ∷ j ∷ r) ≡ is_last kids c (j ∷ r)
last_child kids x c n j r h = ap is_none (at_child kids x c n (next_sibling (j ∷ r)) h)

-- the passing pieces below a child are the child's passing text
passing_tail : (look : Look) (x c : Shape) (n : ℕ) → slice_get (kids x) n ≡ Some c → (bs : Address) → flat_map (λ b. passing_piece look.pieces (is_last kids x (n ∷ b))) (prefixes bs) ≡ passing_text look c bs
passing_tail look x c n h [] = refl
passing_tail look x c n h (j ∷ r) =
    ap (λ t. passing_piece look.pieces t ++ flat_map (λ b. passing_piece look.pieces (is_last kids x (n ∷ b))) (map (λ b. j ∷ b) (prefixes r))) (last_child kids x c n j [] h)
    ∙ ap (λ t. passing_piece look.pieces (is_last kids c (j ∷ [])) ++ t) (
    flat_map-map (λ b. passing_piece look.pieces (is_last kids x (n ∷ b))) (λ b. j ∷ b) (prefixes r)
    ∙ each (prefixes r)
    ∙ sym (flat_map-map (λ b. passing_piece look.pieces (is_last kids c b)) (λ b. j ∷ b) (prefixes r)))
  where
    each : (bs : List Address) → flat_map (λ b. passing_piece look.pieces (is_last kids x (n ∷ j ∷ b))) bs ≡ flat_map (λ b. passing_piece look.pieces (is_last kids c (j ∷ b))) bs
    each [] = refl
    each (b ∷ bs) = ap (λ t. passing_piece look.pieces t ++ flat_map (λ b. passing_piece look.pieces (is_last kids x (n ∷ j ∷ b))) bs) (last_child kids x c n j b h) ∙ ap (λ t. passing_piece look.pieces (is_last kids c (j ∷ b)) ++ t) (each bs)

-- the passing text below a child
pub passing_child : (look : Look) (x c : Shape) (n : ℕ) (bs : Address) → slice_get (kids x) n ≡ Some c → passing_text look x (n ∷ bs) ≡ passing_piece look.pieces (is_last kids x (n ∷ [])) ++ passing_text look c bs
passing_child look x c n bs h =
    ap (λ t. passing_piece look.pieces (is_last kids x (n ∷ [])) ++ t) (flat_map-map (λ b. passing_piece look.pieces (is_last kids x b)) (λ b. n ∷ b) (prefixes bs) ∙ passing_tail look x c n h bs)

-- the prefix below a child
pub prefix_child : (look : Look) (x c : Shape) (n j : ℕ) (r : Address) → slice_get (kids x) n ≡ Some c → prefix_text look x (n ∷ j ∷ r) ≡ passing_piece look.pieces (is_last kids x (n ∷ [])) ++ prefix_text look c (j ∷ r)
prefix_child look x c n j r h =
    ap (λ t. t ++ turning_piece look.pieces (is_last kids x (n ∷ j ∷ r))) (passing_child look x c n (parent (j ∷ r)) h)
    ∙ ap (λ t. (passing_piece look.pieces (is_last kids x (n ∷ [])) ++ passing_text look c (parent (j ∷ r))) ++ turning_piece look.pieces t) (last_child kids x c n j r h)
    ∙ append_assoc (passing_piece look.pieces (is_last kids x (n ∷ []))) (passing_text look c (parent (j ∷ r))) (turning_piece look.pieces (is_last kids c (j ∷ r)))

-- entries with equal parts are equal
entry_same : (look : Look) (p p' q q' o o' : List ℕ) → p ≡ p' → q ≡ q' → o ≡ o' → entry_from look p q o ≡ entry_from look p' q' o'
entry_same look p p' q q' o o' e f g = ap (λ t. entry_from look t q o) e ∙ ap (λ t. entry_from look p' t o) f ∙ ap (λ t. entry_from look p' q' t) g

-- the own bytes below a child are those in the child
own_child : (look : Look) (x c : Shape) (n : ℕ) (a : Address) → slice_get (kids x) n ≡ Some c → own_at look x (n ∷ a) ≡ own_at look c a
own_child look x c n a h = ap (λ o. unwrap_or (option_map (λ (y : Shape). y.own [] look.leaf) o) []) (at_child kids x c n a h)

-- the entry of a child
entry_here : (look : Look) (outer : List ℕ) (x c : Shape) (n : ℕ) (last : Bool) → slice_get (kids x) n ≡ Some c → is_last kids x (n ∷ []) ≡ last
    → entry_after look outer x (n ∷ []) ≡ shape_entry look (outer ++ turning_piece look.pieces last) (outer ++ passing_piece look.pieces last) c
entry_here look outer x c n last h l =
    entry_same look _ _ _ _ _ _ (ap (λ t. outer ++ turning_piece look.pieces t) l)
    (ap (λ t. outer ++ t) (append-nil (passing_piece look.pieces (is_last kids x (n ∷ []))) ∙ ap (passing_piece look.pieces) l)) (own_child look x c n [] h)

-- the entry of an item below a child
pub entry_under : (look : Look) (outer : List ℕ) (x c : Shape) (n j : ℕ) (r : Address) (last : Bool) → slice_get (kids x) n ≡ Some c → is_last kids x (n ∷ []) ≡ last
    → entry_after look outer x (n ∷ j ∷ r) ≡ entry_after look (outer ++ passing_piece look.pieces last) c (j ∷ r)
entry_under look outer x c n j r last h l =
    entry_same look _ _ _ _ _ _
    (ap (λ t. outer ++ t) (prefix_child look x c n j r h) ∙ ap (λ t. outer ++ (passing_piece look.pieces t ++ prefix_text look c (j ∷ r))) l
    ∙ sym (append_assoc outer (passing_piece look.pieces last) (prefix_text look c (j ∷ r))))
    (ap (λ t. outer ++ t) (passing_child look x c n (j ∷ r) h) ∙ ap (λ t. outer ++ (passing_piece look.pieces t ++ passing_text look c (j ∷ r))) l
    ∙ sym (append_assoc outer (passing_piece look.pieces last) (passing_text look c (j ∷ r))))
    (own_child look x c n (j ∷ r) h)

-- the addresses of a walk but the first
abbrev under : {X : Type 0} → (X → List X) → ℕ → X → List Address
under kids zero x = []
under kids (suc d) x = branches (walk kids d) 0 (kids x)

-- a walk is the empty address, and then those under it
walk_under : {X : Type 0} (kids : X → List X) (d : ℕ) (x : X) → walk kids d x ≡ [] ∷ under kids d x
walk_under kids zero x = refl
walk_under kids (suc d) x = refl

-- each address under x is nonempty
nonempty : {X : Type 0} (kids : X → List X) (d : ℕ) (x : X) (a : Address) → In a (under kids d x) → (j : ℕ) × (r : Address) × (a ≡ j ∷ r)
nonempty kids zero x a h = absurd h
nonempty kids (suc d) x a h = let q = in_branches (walk kids d) 0 (kids x) a h in (0 + q.0, q.2, q.3)

-- the entries of one child and of the items under it
join_child : (look : Look) (d : ℕ) → ((outer : List ℕ) (y : Shape) → map (entry_after look outer y) (under kids d y) ≡ entries_below look d outer y)
    → (outer : List ℕ) (x c : Shape) (n : ℕ) (last : Bool) → slice_get (kids x) n ≡ Some c → is_last kids x (n ∷ []) ≡ last
    → map (entry_after look outer x) (map (λ a. n ∷ a) (walk kids d c)) ≡ with_below look (entries_below look d) outer last c
join_child look d ih outer x c n last h l =
    let under_outer = outer ++ passing_piece look.pieces last in
    sym (map_twice (λ a. n ∷ a) (entry_after look outer x) (walk kids d c))
    ∙ ap (map (λ a. entry_after look outer x (n ∷ a))) (walk_under kids d c)
    ∙ ap (λ t. t ∷ map (λ a. entry_after look outer x (n ∷ a)) (under kids d c)) (entry_here look outer x c n last h l)
    ∙ ap (λ t. shape_entry look (outer ++ turning_piece look.pieces last) (outer ++ passing_piece look.pieces last) c ∷ t) (
    map_same (λ a. entry_after look outer x (n ∷ a)) (entry_after look under_outer c) (under kids d c)
    (λ a k. let q = nonempty kids d c a k in
    subst (λ (b : Address). entry_after look outer x (n ∷ b) ≡ entry_after look under_outer c b) (sym q.2) (entry_under look outer x c n q.0 q.1 last h l))
    ∙ ih under_outer c)

-- the entries of the addresses under each child are those by recursion
join_kids : (look : Look) (d : ℕ) → ((outer : List ℕ) (y : Shape) → map (entry_after look outer y) (under kids d y) ≡ entries_below look d outer y)
    → (outer : List ℕ) (x : Shape) (n : ℕ) (cs : List Shape) → ((i : ℕ) → slice_get cs i ≡ slice_get (kids x) (n + i))
    → map (entry_after look outer x) (branches (walk kids d) n cs) ≡ kid_entries look (entries_below look d) outer cs
join_kids look d ih outer x n [] h = refl
join_kids look d ih outer x n (c ∷ cs) h =
    let zeroth : n + 0 ≡ n = omega arith in
    let first : n + 1 ≡ suc n = omega arith in
    let here = sym (h 0 ∙ ap (slice_get (kids x)) zeroth) in
    let last = is_none-at kids x n cs (h 1 ∙ ap (slice_get (kids x)) first) in
    map-append (entry_after look outer x) (map (λ a. n ∷ a) (walk kids d c)) (branches (walk kids d) (suc n) cs)
    ∙ ap (λ t. t ++ map (entry_after look outer x) (branches (walk kids d) (suc n) cs)) (join_child look d ih outer x c n (is_empty cs) here last)
    ∙ ap (λ t. with_below look (entries_below look d) outer (is_empty cs) c ++ t) (
    join_kids look d ih outer x (suc n) cs (λ i. let e : n + suc i ≡ suc n + i = omega arith in h (suc i) ∙ ap (slice_get (kids x)) e))

-- the entries of the addresses under an item are those by recursion
join_under : (look : Look) (d : ℕ) (outer : List ℕ) (x : Shape) → map (entry_after look outer x) (under kids d x) ≡ entries_below look d outer x
join_under look zero outer x = refl
join_under look (suc d) outer x = join_kids look d (join_under look d) outer x 0 (kids x) (λ i. let e : i ≡ 0 + i = omega arith in ap (slice_get (kids x)) e)

-- the entries over the walk
entries_over_walk : (look : Look) (d : ℕ) (x : Shape) → map (entry_text look x) (walk kids d x) ≡ drawn_entries look d x
entries_over_walk look d x = ap (map (entry_text look x)) (walk_under kids d x) ∙ ap (λ t. shape_entry look [] [] x ∷ t) (join_under look d [] x)

-- a flat map is the concatenation of the map
flat_map-is : (f : Address → List ℕ) (xs : List Address) → flat_map f xs ≡ concat (map f xs)
flat_map-is f [] = refl
flat_map-is f (x ∷ xs) = ap (λ t. f x ++ t) (flat_map-is f xs)

-- the drawing by recursion is the entries over the walk, joined
pub join : (look : Look) (d : ℕ) (x : Shape) → flat_map (entry_text look x) (walk kids d x) ≡ concat (drawn_entries look d x)
join look d x = flat_map-is (entry_text look x) (walk kids d x) ∙ ap concat (entries_over_walk look d x)

-- the drawing by recursion is the drawing by addresses
pub drawn_is_drawing : (look : Look) (d : ℕ) (x : Shape) → IsDrawing look x d (concat (drawn_entries look d x))
drawn_is_drawing look d x = (walk kids d x, walk_is_list kids d x, sym (join look d x))

-- the first entries by recursion are those over the first addresses
pub join_first : (look : Look) (d n : ℕ) (x : Shape) → concat (take n (drawn_entries look d x)) ≡ flat_map (entry_text look x) (take n (walk kids d x))
join_first look d n x =
    ap (λ l. concat (take n l)) (sym (entries_over_walk look d x)) ∙ ap concat (take-map (entry_text look x) n (walk kids d x)) ∙ sym (flat_map-is (entry_text look x) (take n (walk kids d x)))

-- a root drawn with its children
pub root_written : {A E : Type 0} (look : Look) (depth : ℕ) (t : Shape) (ks : List Shape) (a b c : Option (List ℕ)) (r : Result A E) (e : DrawError) → (depth ≡ 0 → ⊥) → ks ≡ kids t
    → Appends a b (shape_entry look [] [] t) → AreWritten b c r e (kid_entries look (entries_below look (depth - 1)) [] ks) → AreWritten a c r e (drawn_entries look depth t)
root_written look zero t ks a b c r e n is h w = absurd (n refl)
root_written look (suc d) t ks a b c r e n is h w =
    let less : suc d - 1 ≡ d = omega arith in
    entry_then a b c r e (shape_entry look [] [] t) (entries_below look (suc d) [] t) h
    (subst (λ (es : List (List ℕ)). AreWritten b c r e es) (ap (λ k. kid_entries look (entries_below look k) [] ks) less ∙ ap (kid_entries look (entries_below look d) []) is) w)

-- a root drawn alone
pub root_alone : (look : Look) (depth : ℕ) (t : Shape) (a b : Option (List ℕ)) → depth ≡ 0 → Appends a b (shape_entry look [] [] t) → Appends a b (concat (drawn_entries look depth t))
root_alone look depth t a b e h = subst (λ (k : ℕ). Appends a b (concat (drawn_entries look k t))) (sym e) (subst (λ (y : List ℕ). Appends a b y) (sym (append-nil (shape_entry look [] [] t))) h)
