-- The entries of a drawing by recursion, for the engine's private functions. Public contracts use
-- addresses instead.
use Rattle.std.specs.Prelude.{ℕ, zero, suc, Bool, true, false, List, [], ◌∷◌, ◌++◌}
use Rattle.ptree.specs.Drawing.{Look, entry_from}
use Rattle.ptree.specs.Pieces.{turning_piece, passing_piece}
use Rattle.ptree.specs.Shape.{Shape, kids}

-- whether a list is empty
abbrev pub is_empty : {X : Type 0} → List X → Bool
is_empty [] = true
is_empty (x ∷ xs) = false

-- the entry of x after this prefix, with this passing text
abbrev pub shape_entry : Look → List ℕ → List ℕ → Shape → List ℕ
shape_entry look prefix passing x = entry_from look prefix passing (x.own [] look.leaf)

-- the entry of an item and, by below, the entries under it, after its parent's passing text
abbrev pub with_below : Look → (List ℕ → Shape → List (List ℕ)) → List ℕ → Bool → Shape → List (List ℕ)
with_below look below outer last x =
    shape_entry look (outer ++ turning_piece look.pieces last) (outer ++ passing_piece look.pieces last) x ∷ below (outer ++ passing_piece look.pieces last) x

-- the entries of children
abbrev pub kid_entries : Look → (List ℕ → Shape → List (List ℕ)) → List ℕ → List Shape → List (List ℕ)
kid_entries look below outer [] = []
kid_entries look below outer (c ∷ cs) = with_below look below outer (is_empty cs) c ++ kid_entries look below outer cs

-- the entries under x, down to a number of levels
abbrev pub entries_below : Look → ℕ → List ℕ → Shape → List (List ℕ)
entries_below look zero outer x = []
entries_below look (suc levels_left) outer x = kid_entries look (entries_below look levels_left) outer (kids x)

-- the entries of an item that is not the root
abbrev pub item_entries : Look → ℕ → List ℕ → Bool → Shape → List (List ℕ)
item_entries look levels_left outer last x = with_below look (entries_below look levels_left) outer last x

-- the entries of a root and of the items under it
abbrev pub drawn_entries : Look → ℕ → Shape → List (List ℕ)
drawn_entries look depth x = shape_entry look [] [] x ∷ entries_below look depth [] x
