-- Paths by their first names.
use Rattle.std.specs.Cmp.Lexicographic.{slice_cmp}
use Rattle.std.specs.List.{AllByRecursion, filter}
use Rattle.std.specs.List.Sorted.{IsStrictlySortedBy}
use Rattle.std.specs.Option.{option_to_list}
use Rattle.std.specs.Ordering.{nat_cmp, is_lt}
use Rattle.std.specs.Prelude.{◌≡◌, ℕ, ◌+◌, ◌<◌, take, slice_index_or, Bool, true, false, if◌then◌else◌, List, [], ◌∷◌, ◌++◌, length, map, Option, Some, None, option_map, ⊤}
use Rattle.std.specs.Str.{bytes_eq}
use Rattle.ptree_trees.specs.declared.paths.cut.CutPath.{CutPath}
use Rattle.ptree_trees.specs.declared.paths.group.Group.{Group}
use Rattle.ptree_trees.specs.declared.paths.key.KeyedCut.{KeyedCut}
use Rattle.ptree.specs.Tree.{Forest}
use Rattle.ptree_trees.specs.CutName.{tail_names}
use Rattle.ptree_trees.specs.Paths.{names, next_names, has_name, with_names, tails_of, texts_below}

-- ## Cut paths

-- a path that is cut behind its first name: the name, what follows the separator, if there is one,
-- and how many paths are before it
pub record Cut : Type 0 where
  pub name : List ℕ
  pub tail : Option (List ℕ)
  pub index : ℕ

-- that of a value of the code
abbrev pub cut_of : CutPath → Cut
cut_of c = record { name = c.name.now; tail = option_map (λ t. t.now) c.tail; index = c.index }

-- and that of a path with a key
abbrev pub keyed_cut : KeyedCut → Cut
keyed_cut k = cut_of k.cut.now

-- these are the paths, cut, of which the first has this number
abbrev pub AreCuts : ℕ → ℕ → List Cut → List (List (List ℕ)) → Type 0
AreCuts separator i [] [] = ⊤
AreCuts separator i [] (p ∷ ps) = ⊥
AreCuts separator i (c ∷ cs) [] = ⊥
AreCuts separator i (c ∷ cs) (p ∷ ps) = (p ≡ c.name ∷ tail_names separator c.tail) × (c.index ≡ i) × AreCuts separator (i + 1) cs ps

-- those with a name
abbrev pub named : List ℕ → List Cut → List Cut
named n cs = filter (λ c. bytes_eq c.name n) cs

-- what follows their first names
abbrev pub tails_in : List Cut → List (List ℕ)
tails_in [] = []
tails_in (c ∷ cs) = option_to_list c.tail ++ tails_in cs

-- the number of the first
abbrev pub first_in : List Cut → Option ℕ
first_in [] = None
first_in (c ∷ cs) = Some c.index

-- ## Groups

-- the paths with one first name: how many paths are before the first of them, and what follows the
-- name in those that go on
pub record PathGroup : Type 0 where
  pub name : List ℕ
  pub first : ℕ
  pub tails : List (List ℕ)

-- that of a value of the code
abbrev pub group_of : Group → PathGroup
group_of g = record { name = g.name.now; first = g.first; tails = map (λ t. t.now) g.tails.items }

-- the group of one path
abbrev pub group_from : Cut → PathGroup
group_from c = record { name = c.name; first = c.index; tails = option_to_list c.tail }

-- a group with one path more
abbrev pub with_tail : PathGroup → Cut → PathGroup
with_tail g c = record { name = g.name; first = g.first; tails = g.tails ++ option_to_list c.tail }

-- the names of groups
abbrev pub group_names : List PathGroup → List (List ℕ)
group_names gs = map (λ g. g.name) gs

-- there is a group for each name of the paths, in ascending order
pub record IsGrouping (cs : List Cut) (gs : List PathGroup) : Type 0 where
  pub ascending : IsStrictlySortedBy (slice_cmp nat_cmp) (group_names gs)
  pub has : (n : List ℕ) → has_name (group_names gs) n ≡ has_name (map (λ c. c.name) cs) n
  pub each : AllByRecursion (λ g. (g.tails ≡ tails_in (named g.name cs)) × (Some g.first ≡ first_in (named g.name cs))) gs

-- no name is above this one
abbrev pub NoneAbove : List Cut → List ℕ → Type 0
NoneAbove cs n = AllByRecursion (λ c. is_lt (slice_cmp nat_cmp n c.name) ≡ false) cs

-- the paths of the first list, in the order of their names; those with one name keep theirs
pub record AreSortedCuts (xs ys : List KeyedCut) : Type 0 where
  pub ascending : (i : ℕ) (d : KeyedCut) → i < length ys → NoneAbove (map keyed_cut (take i ys)) (keyed_cut (slice_index_or ys i d)).name
  pub stable : (n : List ℕ) → named n (map keyed_cut ys) ≡ named n (map keyed_cut xs)

-- ## The order of names

-- the number of names before the first one that is this
abbrev pub index_of : List ℕ → List (List ℕ) → Option ℕ
index_of n [] = None
index_of n (m ∷ ms) = if bytes_eq m n then Some 0 else option_map (λ i. i + 1) (index_of n ms)

-- the first list has each name of the second once: in ascending order, or else in the order in which
-- they come first
abbrev pub AreNamesIn : Bool → List (List ℕ) → List (List ℕ) → Type 0
AreNamesIn true ms ns = IsStrictlySortedBy (slice_cmp nat_cmp) ms × ((n : List ℕ) → has_name ms n ≡ has_name ns n)
AreNamesIn false ms ns = ms ≡ with_names [] ns

-- the groups of the paths, in ascending order
pub record IsPathGroups (separator : ℕ) (gs : List PathGroup) (paths : List (List (List ℕ))) : Type 0 where
  pub ascending : IsStrictlySortedBy (slice_cmp nat_cmp) (group_names gs)
  pub has : (n : List ℕ) → has_name (group_names gs) n ≡ has_name (next_names [] paths) n
  pub each : AllByRecursion (λ g. (map (names separator) g.tails ≡ tails_of g.name paths) × (Some g.first ≡ index_of g.name (next_names [] paths))) gs

-- the groups of the paths, in ascending order, or else in that of their first paths
abbrev pub AreGroups : Bool → ℕ → List PathGroup → List (List (List ℕ)) → Type 0
AreGroups is_sorted separator gs paths =
    AreNamesIn is_sorted (group_names gs) (next_names [] paths) × AllByRecursion (λ g. map (names separator) g.tails ≡ tails_of g.name paths) gs

-- below each list of names are the names that follow it in the paths, each once
abbrev pub IsForestIn : Bool → Forest → List (List (List ℕ)) → Type 0
IsForestIn is_sorted f paths = (ns : List (List ℕ)) → AreNamesIn is_sorted (texts_below f ns) (next_names ns paths)
