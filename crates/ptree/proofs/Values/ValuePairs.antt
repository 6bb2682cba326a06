-- Values, their texts and their children.
use Rattle.std.proofs.Common.{◌≡◌, ◌∙◌, ap, sym, refl, false, rules, Box, Vec, Global, Some, List, [], ◌∷◌, map}
use Rattle.ptree.specs.Data as d
use Rattle.ptree.specs.Data.{Data, is_list, item_pairs, entry_pair, entry_pairs, value_pairs, Pair, pair_own, pair_below, pair_shape}
use Rattle.ptree.specs.Shape.{kids}
use Rattle.ptree.proofs.Trees.ItemTrees.{map_twice}
use Rattle.ptree.proofs.Trees.Shapes.{kids_of_unfold}
use Rattle.ptree.specs.Value.{data_of, items_of, entries_of}
use Rattle.ptree.specs.declared.value.Value.{Value, Option, Map, the_lemmas}

-- the data of an option that holds a value
pub data_of-Some : (b : Box Value Global) → data_of (Option (Some b)) ≡ d.something (data_of b.value)
data_of-Some b = search (rules, the_lemmas)

-- the data of a map
pub data_of-Map : (v : Vec (Value × Value) Global) → data_of (Map v) ≡ d.map (entries_of v.items)
data_of-Map v = search (rules, the_lemmas)

-- the pairs of the elements
pub item_pairs-of : (vs : List Value) → item_pairs (items_of vs) ≡ map (λ v. ([], data_of v)) vs
item_pairs-of [] = refl
item_pairs-of (v ∷ vs) = rw (item_pairs-of vs) refl

-- the pairs of the entries
pub entry_pairs-of : (es : List (Value × Value)) → entry_pairs (entries_of es) ≡ map (λ e. entry_pair (data_of e.0) (data_of e.1)) es
entry_pairs-of [] = refl
entry_pairs-of (e ∷ es) = rw (entry_pairs-of es) refl

-- the children of an entry are those of its value, which only a list or a map has
pub entry_pair-below : (key value : Data) → value_pairs (entry_pair key value).1 ≡ value_pairs value
entry_pair-below key (d.boolean b) = refl
entry_pair-below key (d.u8 n) = refl
entry_pair-below key (d.u16 n) = refl
entry_pair-below key (d.u32 n) = refl
entry_pair-below key (d.u64 n) = refl
entry_pair-below key (d.i8 z) = refl
entry_pair-below key (d.i16 z) = refl
entry_pair-below key (d.i32 z) = refl
entry_pair-below key (d.i64 z) = refl
entry_pair-below key (d.character c) = refl
entry_pair-below key (d.string s) = refl
entry_pair-below key d.unit = refl
entry_pair-below key d.nothing = refl
entry_pair-below key (d.something x) = refl
entry_pair-below key (d.newtype x) = refl
entry_pair-below key (d.seq xs) = refl
entry_pair-below key (d.map es) = refl
entry_pair-below key (d.bytes bs) = refl

-- only a list or a map has children
pub value_pairs-of_others : (value : Data) → is_list value ≡ false → value_pairs value ≡ []
value_pairs-of_others value h = sym (rw h at (entry_pair-below (d.string []) value))

-- the shapes of the children, given the children
pub kids_of_pair : {X : Type 0} (f : X → Pair) (p : Pair) (xs : List X) → map f xs ≡ value_pairs p.1 → map (λ x. pair_shape (f x)) xs ≡ kids (pair_shape p)
kids_of_pair f p xs h = map_twice f pair_shape xs ∙ ap (map pair_shape) h ∙ kids_of_unfold pair_own pair_below p
