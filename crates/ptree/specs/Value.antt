-- The data that a `Value` denotes.
use Rattle.std.specs.Prelude.{List, [], ◌∷◌, map, Some, None, String, string_bytes}
use Rattle.std.specs.declared.alloc.Global.{Global}
use Rattle.ptree.specs.Data as d
use Rattle.ptree.specs.Data.{Data, Items, Entries, Pair}
use Rattle.ptree.specs.declared.value.Value.{Value, fold-Value}
use Rattle.ptree.specs.declared.value.Value.TheOpen.{Value-F}

-- a list of data as the elements of a list
abbrev pub items_from : List Data → Items
items_from [] = d.no_items
items_from (x ∷ xs) = d.item x (items_from xs)

-- a list of keys and values as the entries of a map
abbrev pub entries_from : List (Data × Data) → Entries
entries_from [] = d.no_entries
entries_from (e ∷ es) = d.entry e.0 e.1 (entries_from es)

-- the data of a value whose inner values are replaced by their data
abbrev pub data_step : Value-F Data → Data
data_step (Value-F.Bool b) = d.boolean b
data_step (Value-F.U8 n) = d.u8 n
data_step (Value-F.U16 n) = d.u16 n
data_step (Value-F.U32 n) = d.u32 n
data_step (Value-F.U64 n) = d.u64 n
data_step (Value-F.I8 z) = d.i8 z
data_step (Value-F.I16 z) = d.i16 z
data_step (Value-F.I32 z) = d.i32 z
data_step (Value-F.I64 z) = d.i64 z
data_step (Value-F.Char c) = d.character c
data_step (Value-F.String s) = d.string (string_bytes s)
data_step Value-F.Unit = d.unit
data_step (Value-F.Option None) = d.nothing
data_step (Value-F.Option (Some x)) = d.something x.value
data_step (Value-F.Newtype x) = d.newtype x.value
data_step (Value-F.Seq v) = d.seq (items_from v.items)
data_step (Value-F.Map v) = d.map (entries_from v.items)
data_step (Value-F.Bytes v) = d.bytes v.items

-- the data of a value
abbrev pub data_of : Value → Data
data_of = fold-Value Data data_step

-- the elements of a list of values
abbrev pub items_of : List Value → Items
items_of vs = items_from (map data_of vs)

-- the data of a key and a value
abbrev pub entry_of : Value × Value → Data × Data
entry_of e = (data_of e.0, data_of e.1)

-- the entries of a list of keys and values
abbrev pub entries_of : List (Value × Value) → Entries
entries_of es = entries_from (map entry_of es)

-- the pair of a label and a value
abbrev pub pair_of : String Global × Value → Pair
pair_of p = (string_bytes p.0, data_of p.1)
