-- What has no effect in the sources of a configuration.
use Rattle.std.specs.Prelude.{ℕ, ◌&&◌, Bool, not, if◌then◌else◌, List, [], ◌∷◌, ◌++◌, Option, Some, None, is_some, is_none, flat_map, take, length, codes, nat_le, string_bytes}
use Rattle.std.specs.Str.{bytes_eq, str_eq_ignore_ascii_case}
use Rattle.ptree.specs.Color.{tone_of, named_tone}
use Rattle.ptree.specs.Fields.{all_fields}
use Rattle.ptree.specs.File.{as_text}
use Rattle.ptree.specs.Parse.{parse_color}
use Rattle.ptree.specs.Sources.{Given, given_by, variables_of, variable, file_document}
use Rattle.ptree.specs.declared.print_config.Sources.{Sources}
use Rattle.ptree.specs.declared.print_config.fields.Field.{Field}
use Rattle.ptree_sources.specs.Settings.{field_at, field_of_variable, is_color, is_known, file_keys, key_name}
use Rattle.ptree_sources.specs.declared.settings.effects.Warning.{Warning}
use Rattle.ptree_sources.specs.declared.settings.effects.Warning.TheVariants as w

-- a warning, with texts by their bytes
pub data WarningValue : Type 0 where
  stray_variable : List ℕ → WarningValue
  unknown_key : List ℕ → WarningValue
  unknown_variable_color : Field → List ℕ → WarningValue
  unknown_key_color : Field → List ℕ → WarningValue

-- the value of a warning
abbrev pub warning_of : Warning → WarningValue
warning_of (w.Variable name) = stray_variable (string_bytes name)
warning_of (w.Key key) = unknown_key (string_bytes key)
warning_of (w.VariableColor field name) = unknown_variable_color field (string_bytes name)
warning_of (w.KeyColor field name) = unknown_key_color field (string_bytes name)

-- whether a name begins with `PTREE_`, in any ASCII case
unfoldable pub has_front : List ℕ → Bool
has_front name = nat_le 6 (length name) && str_eq_ignore_ascii_case (take 6 name) (codes "PTREE_")

-- whether a variable begins as those of fields do, and is neither one of them nor the path of the
-- file or of a library for other languages
unfoldable pub is_stray : List ℕ → Bool
is_stray name =
    (((has_front name && not (bytes_eq name (codes "PTREE_CONFIG"))) && not (bytes_eq name (codes "PTREE_LIBRARY"))) && not (bytes_eq name (codes "PTREE_LIB_DIR")))
    && is_none (field_of_variable name)

-- the warning of a variable, if it has no effect
abbrev pub stray_warnings : List ℕ → List WarningValue
stray_warnings name = if is_stray name then stray_variable name ∷ [] else []

-- the warning of a key, if it is not known
abbrev pub unknown_key_warnings : Option (List ℕ) → List ℕ → List WarningValue
unknown_key_warnings table key = if is_known table key then [] else unknown_key (key_name table key) ∷ []

-- the warning of a text, if there is one that does not pass the test
abbrev pub warning_unless : (List ℕ → Bool) → (List ℕ → WarningValue) → Option (List ℕ) → List WarningValue
warning_unless test warning None = []
warning_unless test warning (Some text) = if test text then [] else warning text ∷ []

-- whether the text of a variable is a known colour
unfoldable pub is_known_color : List ℕ → Bool
is_known_color text = is_some (tone_of (parse_color text))

-- whether a text of a file is the name of a known colour
unfoldable pub is_known_name : List ℕ → Bool
is_known_name name = is_some (named_tone name)

-- the warning of a field's variable, if it is of a colour and not known
abbrev pub variable_color_warnings : Given → Field → List WarningValue
variable_color_warnings given field =
    if is_color field
    then warning_unless is_known_color (unknown_variable_color field) (variable given field)
    else []

-- the warning of a text at a field's key, if it is of a colour and not known
abbrev pub color_warnings_at : Option Field → Option (List ℕ) → List WarningValue
color_warnings_at None text = []
color_warnings_at (Some field) text =
    if is_color field then warning_unless is_known_name (unknown_key_color field) text else []

-- the warning of a key with a text, if it is that of a colour and the text is not known
abbrev pub key_color_warnings : Option (List ℕ) → List ℕ → Option (List ℕ) → List WarningValue
key_color_warnings table key text = color_warnings_at (field_at table key) text

-- all warnings: of variables, then of keys, then of colours in variables and in the file
abbrev pub all_warnings : Sources → List WarningValue
all_warnings sources =
    let keys = file_keys (file_document sources.file) in
    ((flat_map (λ v. stray_warnings v.0) (variables_of sources.variables.items)
    ++ flat_map (λ k. unknown_key_warnings k.table k.key) keys)
    ++ flat_map (variable_color_warnings (given_by sources)) all_fields)
    ++ flat_map (λ k. key_color_warnings k.table k.key (as_text k.value)) keys
