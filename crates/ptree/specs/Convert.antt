-- How JSON and TOML values are converted.
use Rattle.std.specs.Option.{option_or, option_map_or}
use Rattle.std.specs.Prelude.{if◌then◌else◌, Option, Some, None, Result, Ok, Err}
use Rattle.serde_json.specs.Data as json
use Rattle.serde_json.specs.Written.{has_float}
use Rattle.toml.specs.Data as toml
use Rattle.ptree.specs.Data.{Data, boolean, u64, i64, string, unit, seq, map, Items, no_items, item, Entries, no_entries, entry}
use Rattle.ptree.specs.declared.value.convert.ConvertError.{ConvertError}
use Rattle.ptree.specs.declared.value.convert.ConvertError.TheVariants.{Float, Date}

-- The first float or date in a TOML value, walking lists in order and tables in the order of their
-- members, whose keys ascend.
abbrev mutual
  pub toml_fault : toml.Data → Option ConvertError
  toml_fault (toml.float x) = Some Float
  toml_fault (toml.datetime t) = Some Date
  toml_fault (toml.array ds) = toml_item_fault ds
  toml_fault (toml.table ms) = toml_member_fault ms
  toml_fault _ = None

  pub toml_item_fault : toml.Items → Option ConvertError
  toml_item_fault toml.no_items = None
  toml_item_fault (toml.item d ds) = option_or (toml_fault d) (toml_item_fault ds)

  pub toml_member_fault : toml.Members → Option ConvertError
  toml_member_fault toml.no_members = None
  toml_member_fault (toml.member k d ms) = option_or (toml_fault d) (toml_member_fault ms)

-- JSON: null is the unit, and objects are maps whose keys are texts. A float has no value, and is
-- replaced by the unit.
abbrev mutual
  pub json_data : json.Data → Data
  json_data json.null = unit
  json_data (json.boolean b) = boolean b
  json_data (json.number (json.unsigned n)) = u64 n
  json_data (json.number (json.negative z)) = i64 z
  json_data (json.number (json.float x)) = unit
  json_data (json.string s) = string s
  json_data (json.array ds) = seq (json_items ds)
  json_data (json.object ms) = map (json_entries ms)

  pub json_items : json.Items → Items
  json_items json.no_items = no_items
  json_items (json.item d ds) = item (json_data d) (json_items ds)

  pub json_entries : json.Members → Entries
  json_entries json.no_members = no_entries
  json_entries (json.member k d ms) = entry (string k) (json_data d) (json_entries ms)

-- TOML: tables are maps whose keys are texts. A float or a date has no value, and is replaced by
-- the unit.
abbrev mutual
  pub toml_data : toml.Data → Data
  toml_data (toml.string s) = string s
  toml_data (toml.integer z) = i64 z
  toml_data (toml.float x) = unit
  toml_data (toml.boolean b) = boolean b
  toml_data (toml.datetime t) = unit
  toml_data (toml.array ds) = seq (toml_items ds)
  toml_data (toml.table ms) = map (toml_entries ms)

  pub toml_items : toml.Items → Items
  toml_items toml.no_items = no_items
  toml_items (toml.item d ds) = item (toml_data d) (toml_items ds)

  pub toml_entries : toml.Members → Entries
  toml_entries toml.no_members = no_entries
  toml_entries (toml.member k d ms) = entry (string k) (toml_data d) (toml_entries ms)

-- the value of a JSON value, or an error if it holds a float
abbrev pub json_conversion : json.Data → Result Data ConvertError
json_conversion d = if has_float d then Err Float else Ok (json_data d)

-- the value of a TOML value, or an error for the first float or date in it
abbrev pub toml_conversion : toml.Data → Result Data ConvertError
toml_conversion d = option_map_or Err (toml_fault d) (Ok (toml_data d))
