-- Values as plain data, their texts and their children.
use Rattle.std.specs.Prelude.{⊤, ℕ, ℤ, Bool, true, false, if◌then◌else◌, List, [], ◌∷◌, ◌++◌, codes, decimal, encode_utf8}
use Rattle.std.specs.List.Sorted.{IsStrictlySortedBy}
use Rattle.std.specs.Cmp.Lexicographic.{slice_cmp}
use Rattle.std.specs.Fmt.{signed_decimal}
use Rattle.std.specs.Ordering.{nat_cmp}
use Rattle.ptree.specs.Shape.{Shape, unfolded_shape}
use Rattle.ptree.specs.Style.{StyleValue, painted_text}

-- A value, independent of its place in memory: texts and bytes are lists of bytes, and a character
-- is its code point.
mutual
  pub data Data : Type 0 where
    boolean : Bool → Data
    u8 : ℕ → Data
    u16 : ℕ → Data
    u32 : ℕ → Data
    u64 : ℕ → Data
    i8 : ℤ → Data
    i16 : ℤ → Data
    i32 : ℤ → Data
    i64 : ℤ → Data
    character : ℕ → Data
    string : List ℕ → Data
    unit : Data
    nothing : Data
    something : Data → Data
    newtype : Data → Data
    seq : Items → Data
    map : Entries → Data
    bytes : List ℕ → Data

  -- the elements of a list, in order
  pub data Items : Type 0 where
    no_items : Items
    item : Data → Items → Items

  -- the keys and values of a map, in order
  pub data Entries : Type 0 where
    no_entries : Entries
    entry : (key value : Data) → Entries → Entries

-- A value's text. Numbers are decimal. A value without a case here has the empty text.
abbrev pub value_text : Data → List ℕ
value_text (boolean b) = if b then codes "true" else codes "false"
value_text (u8 n) = decimal n
value_text (u16 n) = decimal n
value_text (u32 n) = decimal n
value_text (u64 n) = decimal n
value_text (i8 z) = signed_decimal z
value_text (i16 z) = signed_decimal z
value_text (i32 z) = signed_decimal z
value_text (i64 z) = signed_decimal z
value_text (character c) = encode_utf8 c
value_text (string s) = s
value_text (something x) = value_text x
value_text (newtype x) = value_text x
value_text _ = []

-- the texts of a map's keys
abbrev pub key_texts : Entries → List (List ℕ)
key_texts no_entries = []
key_texts (entry key value es) = value_text key ∷ key_texts es

-- the keys of each map in the value ascend, by the bytes of their texts, and none occurs twice
abbrev mutual
  pub KeysAscend : Data → Type 0
  KeysAscend (something x) = KeysAscend x
  KeysAscend (newtype x) = KeysAscend x
  KeysAscend (seq xs) = ItemsAscend xs
  KeysAscend (map es) = IsStrictlySortedBy (slice_cmp nat_cmp) (key_texts es) × ValuesAscend es
  KeysAscend _ = ⊤

  pub ItemsAscend : Items → Type 0
  ItemsAscend no_items = ⊤
  ItemsAscend (item x xs) = KeysAscend x × ItemsAscend xs

  pub ValuesAscend : Entries → Type 0
  ValuesAscend no_entries = ⊤
  ValuesAscend (entry key value es) = KeysAscend value × ValuesAscend es

-- whether a value is a list or a map
abbrev pub is_list : Data → Bool
is_list (seq xs) = true
is_list (map es) = true
is_list _ = false

-- a label and a value
abbrev pub Pair : Type 0
Pair = List ℕ × Data

-- the pairs of a list: each element, without a label
abbrev pub item_pairs : Items → List Pair
item_pairs no_items = []
item_pairs (item x xs) = ([], x) ∷ item_pairs xs

-- the pair of an entry: a list or a map has its key as the label; any other value is the text
-- `key = value`
abbrev pub entry_pair : Data → Data → Pair
entry_pair key value =
    if is_list value then (value_text key, value) else ([], string (value_text key ++ codes " = " ++ value_text value))

-- the pairs of a map, one for each entry
abbrev pub entry_pairs : Entries → List Pair
entry_pairs no_entries = []
entry_pairs (entry key value es) = entry_pair key value ∷ entry_pairs es

-- the children of a value; only a list or a map has any
abbrev pub value_pairs : Data → List Pair
value_pairs (seq xs) = item_pairs xs
value_pairs (map es) = entry_pairs es
value_pairs _ = []

-- a pair's text: the label, or the value's text if the label is empty
abbrev pub pair_text : Pair → List ℕ
pair_text ([], value) = value_text value
pair_text (c ∷ label, value) = c ∷ label

-- a pair's text, painted
abbrev pub pair_own : Pair → StyleValue → List ℕ
pair_own p style = painted_text style (pair_text p)

-- the children of a pair's value
abbrev pub pair_below : Pair → List Pair
pair_below p = value_pairs p.1

-- the shape of a label and a value
abbrev pub pair_shape : Pair → Shape
pair_shape p = unfolded_shape pair_own pair_below p

-- the shape of a value: that of the value under an empty label
abbrev pub value_shape : Data → Shape
value_shape value = pair_shape ([], value)
