-- Trees changed.
use Rattle.std.specs.Prelude.{◌≡◌, ◌||◌, ℕ, Bool, false, if◌then◌else◌, List, [], ◌∷◌}
use Rattle.std.specs.Prelude.{Option, Some, None, option_and_then}
use Rattle.std.specs.Borrow.{Bor}
use Rattle.std.specs.Fn.{Shared, FnReturnsAt}
use Rattle.std.specs.Str.{bytes_eq}
use Rattle.ptree.specs.Tree.{Forest, none, item, Tree, tree, tree_kids}

-- each call of f at a text returns what this test says of it
abbrev pub Tests : {F : Type 0} → Shared F (Bor (List ℕ) × Unit {0}) Bool → F
    → (List ℕ → Bool) → Type 0
Tests {F} calls f test = (text : List ℕ) (r : Bool) → FnReturnsAt calls f text r → r ≡ test text

-- an item of the forest passes the test
abbrev pub any_passes : (List ℕ → Bool) → Forest → Bool
any_passes test none = false
any_passes test (item t c r) = test t || any_passes test c || any_passes test r

-- the forest without the items that neither pass the test nor have an item below that does
abbrev pub kept_forest : (List ℕ → Bool) → Forest → Forest
kept_forest test none = none
kept_forest test (item t c r) =
    if test t || any_passes test c
    then item t (kept_forest test c) (kept_forest test r)
    else kept_forest test r

-- the tree without those items, or nothing if the root is one of them
abbrev pub kept_tree : (List ℕ → Bool) → Tree → Option Tree
kept_tree test t =
    if test t.text || any_passes test t.children
    then Some (tree t.text (kept_forest test t.children))
    else None

-- the first of the trees with this text, if there is one
abbrev pub first_named : List ℕ → List Tree → Option Tree
first_named name [] = None
first_named name (t ∷ ts) = if bytes_eq t.text name then Some t else first_named name ts

-- the tree itself, or where the names lead from its first child with the first name
abbrev pub tree_at_names : Tree → List (List ℕ) → Option Tree
tree_at_names t [] = Some t
tree_at_names t (name ∷ names) =
    option_and_then (λ c. tree_at_names c names) (first_named name (tree_kids t))
