-- Which node a name means.
use Rattle.std.specs.List.{after_first, before_first}
use Rattle.std.specs.Prelude.{◌≡◌, ◌⊎◌, ◌==◌, ◌&&◌, ◌||◌, if◌then◌else◌, ℕ, Bool, true, false, List, [], ◌∷◌, ◌++◌, codes, drop, slice_get, option_map, unwrap_or}
use Rattle.std.specs.Str.{bytes_eq}
use Rattle.ptree_trees.specs.Parts.{begins_with}
use Rattle.trees.specs.Listing.{is_empty}

-- ## Names and versions

-- whether a byte ends a name: a blank or `@`
abbrev pub ends_name : ℕ → Bool
ends_name b = (b == 32) || (b == 64)

-- a text without this byte at its front
abbrev pub without_front : ℕ → List ℕ → List ℕ
without_front c [] = []
without_front c (b ∷ text) = if b == c then text else b ∷ text

-- the name at the front of a text: what is before the first blank or `@`, but for an `@` that begins it, as a scope does
abbrev pub own_name : List ℕ → List ℕ
own_name [] = []
own_name (b ∷ text) = if b == 64 then b ∷ before_first ends_name text else before_first ends_name (b ∷ text)

-- the version: what is behind that blank or `@`, without a `v` at its front
abbrev pub version_text : List ℕ → List ℕ
version_text text = without_front 118 (after_first ends_name (without_front 64 text))

-- whether a version is the wanted one, if one is wanted, alone or with a source in parentheses behind it
abbrev pub is_version : List ℕ → List ℕ → Bool
is_version wanted version = is_empty wanted || (bytes_eq version wanted || begins_with (wanted ++ codes " (") version)

-- whether a text has the name and version that are wanted
abbrev pub is_called : List ℕ → List ℕ → Bool
is_called wanted text = bytes_eq (own_name text) (own_name wanted) && is_version (version_text wanted) (version_text text)

-- whether a label has them, or what it is an alias of, as in `alias@npm:name@version`
abbrev pub is_labelled : List ℕ → List ℕ → Bool
is_labelled wanted label = is_called wanted label || (begins_with (codes "npm:") (version_text label) && is_called wanted (drop 4 (version_text label)))

-- ## Nodes

-- whether the text at a place passes a test
abbrev pub passes_at : (List ℕ → Bool) → List (List ℕ) → ℕ → Bool
passes_at test texts i = unwrap_or (option_map test (slice_get texts i)) false

-- whether a name is all of a node's label, or of its path if nodes have paths
abbrev pub is_all_of : List (List ℕ) → List (List ℕ) → List ℕ → ℕ → Bool
is_all_of labels paths name i = passes_at (λ label. bytes_eq label name || passes_at (λ path. bytes_eq path name) paths i) labels i

-- whether it is a part of the label
abbrev pub is_part_of : List (List ℕ) → List ℕ → ℕ → Bool
is_part_of labels name i = passes_at (is_labelled name) labels i

-- a node is the only one that passes a test
abbrev pub IsOnly : (ℕ → Bool) → ℕ → Type 0
IsOnly test i = (test i ≡ true) × ((k : ℕ) → test k ≡ true → k ≡ i)

-- the node that a name means: the only one that it is all of, or, if it is all of none, the only one that it is a part of
abbrev pub IsRootNode : List (List ℕ) → List (List ℕ) → List ℕ → ℕ → Type 0
IsRootNode labels paths name i = IsOnly (is_all_of labels paths name) i ⊎ (((k : ℕ) → is_all_of labels paths name k ≡ false) × IsOnly (is_part_of labels name) i)

-- it means none
abbrev pub LacksRoot : List (List ℕ) → List (List ℕ) → List ℕ → Type 0
LacksRoot labels paths name = (i : ℕ) → IsRootNode labels paths name i → ⊥
