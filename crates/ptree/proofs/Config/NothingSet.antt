-- The configuration of sources that set nothing.
use Rattle.std.proofs.Common.{◌≡◌, ◌∙◌, ◌&&◌, ◌||◌, Bool, true, false, List, ℕ, [], ◌∷◌, Option, Some, None, refl, ap}
use Rattle.std.specs.Prelude.{map, is_some, is_none, not, option_and_then, unwrap_or}
use Rattle.std.specs.List.{list_any}
use Rattle.std.specs.Option.{option_or}
use Rattle.ptree.specs.declared.print_config.FileSource.{FileSource}
use Rattle.ptree.specs.declared.print_config.FileSource.TheVariants.{Absent, Unreadable, Toml, Json}
use Rattle.ptree.specs.declared.print_config.Sources.{Sources}
use Rattle.ptree.specs.declared.print_config.StyleWhen.{StyleWhen}
use Rattle.ptree.specs.declared.print_config.fields.Field.{Field}
use Rattle.ptree.specs.declared.print_config.fields.Field.TheVariants.{Depth, Indent, Padding, Styled, Characters, DownAndRight, Down, TurnRight, Right, Empty, Paint, Continued}
use Rattle.ptree.specs.declared.print_config.fields.Part.{Part}
use Rattle.ptree.specs.declared.print_config.fields.Part.TheVariants.{Branch, Leaf}
use Rattle.ptree.specs.declared.print_config.fields.StyleField.{StyleField}
use Rattle.ptree.specs.declared.print_config.fields.StyleField.TheVariants.{Foreground, Background, Bold, Dimmed, Italic, Underline, Blink, Reverse, Hidden, Strikethrough}
use Rattle.ptree.specs.declared.print_config.loader.Fault.TheVariants as fault
use Rattle.ptree.specs.declared.print_config.parse.Spelling.TheVariants.{AnyCase}
use Rattle.ptree.specs.Characters.{Characters as CharacterTexts, parse_set, utf}
use Rattle.ptree.specs.Color.{ColorValue}
use Rattle.ptree.specs.Config.{ConfigValue, default_config}
use Rattle.ptree.specs.Fields.{field_key, table_key, part_key, kind_of, all_fields, all_style_fields}
use Rattle.ptree.specs.File.{FileNode, get, is_table, as_text, as_flag, whole_node, when_node, set_node, color_node}
use Rattle.ptree.specs.Loading.{SayNothing, look_up, characters, loaded_style, configuration, text_fits, node_fits, fault_unless, table_fault, field_fault, first_of, fault_in, file_fault, unless_fault, effective_config, has_variable, is_dimmed}
use Rattle.ptree.specs.Sources.{Variables, Given, variable, table_at, node, file_document, variables_of}
use Rattle.ptree.specs.Style.{StyleValue, plain_value}
use Rattle.ptree.specs.Parse.{parse_when, parse_flag, parse_number, parse_color}

-- variables without a file
abbrev without_file : Variables → Given
without_file variables = record { variables = variables; document = None }

-- no variable is one of a field
abbrev HasNone : Variables → Type 0
HasNone variables = (field : Field) → variable (without_file variables) field ≡ None

-- without a file there is no table
table_none : (variables : Variables) (key : Option (List ℕ)) → table_at (without_file variables) key ≡ None
unfolding table_at
table_none variables None = refl
table_none variables (Some key) = refl

-- without a file there is no value at a field's key
node_none : (variables : Variables) (field : Field) → node (without_file variables) field ≡ None
unfolding node
node_none variables field = ap (option_and_then (get (field_key field))) (table_none variables (table_key field))

-- without a file and a variable a look-up finds nothing
nothing_found : {A : Type 0} (by_text : List ℕ → Option A) (by_node : FileNode → Option A) (variables : Variables) → HasNone variables → (field : Field)
    → look_up by_text by_node (without_file variables) field ≡ None
nothing_found by_text by_node variables none field =
    ap (λ text. option_or (option_and_then by_text text) (option_and_then by_node (node (without_file variables) field))) (none field)
    ∙ ap (option_and_then by_node) (node_none variables field)

-- without variables no field of a part has one
no_variable : (variables : Variables) → HasNone variables → (part : Part) → has_variable (without_file variables) part ≡ false
no_variable variables none part = all all_style_fields where
  all : (fields : List StyleField) → list_any (λ f. is_some (variable (without_file variables) (Paint part f))) fields ≡ false
  all [] = refl
  all (f ∷ fs) = ap (λ text. is_some text || list_any (λ f. is_some (variable (without_file variables) (Paint part f))) fs) (none (Paint part f)) ∙ all fs

-- a style whose fields are all missing is plain, except its dimming
no_style : (foreground background : Option ColorValue) (bold dimmed italic underline blink reverse hidden strikethrough : Option Bool) (dimming : Bool)
    → foreground ≡ None → background ≡ None → bold ≡ None → dimmed ≡ None → italic ≡ None → underline ≡ None → blink ≡ None → reverse ≡ None → hidden ≡ None → strikethrough ≡ None
    → (let style : StyleValue = record {
      foreground = foreground;
      background = background;
      bold = unwrap_or bold false;
      dimmed = unwrap_or dimmed dimming;
      italic = unwrap_or italic false;
      underline = unwrap_or underline false;
      blink = unwrap_or blink false;
      reverse = unwrap_or reverse false;
      hidden = unwrap_or hidden false;
      strikethrough = unwrap_or strikethrough false;
    } in style ≡ record plain_value { dimmed = dimming })
no_style foreground background bold dimmed italic underline blink reverse hidden strikethrough dimming a b c d e f g h i j = cc (a, b, c, d, e, f, g, h, i, j)

-- the style of a part if no source sets it
style_none : (variables : Variables) → HasNone variables → (part : Part) → loaded_style (without_file variables) part ≡ record plain_value { dimmed = is_dimmed (without_file variables) part }
unfolding loaded_style
style_none variables none part =
    let flag = λ (f : StyleField). nothing_found parse_flag as_flag variables none (Paint part f) in
    let color = λ (f : StyleField). nothing_found (λ value. Some (parse_color value)) color_node variables none (Paint part f) in
    no_style _ _ _ _ _ _ _ _ _ _ (is_dimmed (without_file variables) part)
    (color Foreground) (color Background) (flag Bold) (flag Dimmed) (flag Italic) (flag Underline) (flag Blink) (flag Reverse) (flag Hidden) (flag Strikethrough)

-- without a file and variables branches are dimmed
branches_dimmed : (variables : Variables) → HasNone variables → is_dimmed (without_file variables) Branch ≡ true
branches_dimmed variables none =
    ap (λ table. is_none table && not (has_variable (without_file variables) Branch)) (table_none variables (Some (part_key Branch)))
    ∙ ap not (no_variable variables none Branch)

-- without a file and variables the characters are the regular set
characters_none : (variables : Variables) → HasNone variables → characters (without_file variables) ≡ utf
unfolding characters
characters_none variables none =
    cc (nothing_found (parse_set AnyCase) set_node variables none Characters, none DownAndRight, none Down, none TurnRight, none Right, none Empty)

-- a configuration whose fields are all missing is the default
no_fields : (depth indent padding : Option ℕ) (styled : Option StyleWhen) (set : CharacterTexts) (branch leaf : StyleValue) (continued : Option (List ℕ))
    → depth ≡ None → indent ≡ None → padding ≡ None → styled ≡ None → set ≡ utf → branch ≡ default_config.branch → leaf ≡ plain_value → continued ≡ None
    → (let value : ConfigValue = record {
      depth = unwrap_or depth default_config.depth;
      indent = unwrap_or indent default_config.indent;
      padding = unwrap_or padding default_config.padding;
      styled = unwrap_or styled default_config.styled;
      characters = set;
      branch = branch;
      leaf = leaf;
      continued = unwrap_or continued default_config.continued;
    } in value ≡ default_config)
no_fields depth indent padding styled set branch leaf continued a b c d e f g h = rw a (rw b (rw c (rw d (rw e (rw f (rw g (rw h refl)))))))

-- without a file and variables the configuration is the default
configuration_none : (variables : Variables) → HasNone variables → configuration (without_file variables) ≡ default_config
unfolding configuration
configuration_none variables none =
    let size = λ (f : Field). nothing_found (parse_number 18446744073709551615) (whole_node 18446744073709551615) variables none f in
    no_fields _ _ _ _ _ _ _ _ (nothing_found (parse_number 4294967295) (whole_node 4294967295) variables none Depth) (size Indent) (size Padding)
    (nothing_found (parse_when AnyCase) when_node variables none Styled) (characters_none variables none)
    (style_none variables none Branch ∙ ap (λ b. record plain_value { dimmed = b }) (branches_dimmed variables none)) (style_none variables none Leaf)
    (nothing_found Some as_text variables none Continued)

-- without a file and variables no field has a fault
no_fault : (variables : Variables) → HasNone variables → (field : Field) → field_fault (without_file variables) field ≡ None
no_fault variables none field =
    ap (λ text. option_or (fault_unless (text_fits (kind_of field)) (fault.Variable field) text) (fault_unless (node_fits (kind_of field)) (fault.Key field) (node (without_file variables) field))) (none field)
    ∙ ap (fault_unless (node_fits (kind_of field)) (fault.Key field)) (node_none variables field)

-- nor has any field of a list of them
none_of : (variables : Variables) → HasNone variables → (fields : List Field) → first_of (map (field_fault (without_file variables)) fields) ≡ None
none_of variables none [] = refl
none_of variables none (f ∷ fs) = ap (λ o. option_or o (first_of (map (field_fault (without_file variables)) fs))) (no_fault variables none f) ∙ none_of variables none fs

-- so there is no fault
fault_none : (variables : Variables) → HasNone variables → fault_in None (without_file variables) ≡ None
unfolding fault_in
fault_none variables none =
    let table = λ (part : Part). ap (fault_unless is_table (fault.Table part)) (table_none variables (Some (part_key part))) in
    let given = without_file variables in
    ap (λ branch. option_or branch (option_or (table_fault given Leaf) (first_of (map (field_fault given) all_fields)))) (table Branch)
    ∙ ap (λ leaf. option_or leaf (first_of (map (field_fault given) all_fields))) (table Leaf) ∙ none_of variables none all_fields

-- sources that set nothing mean the default
pub nothing_said : (sources : Sources) → SayNothing sources → effective_config sources ≡ default_config
nothing_said sources h = at sources.file h.file h.variables where
  at : (file : FileSource) → file ≡ Absent → ((field : Field) → variable (record { variables = variables_of sources.variables.items; document = file_document file }) field ≡ None)
      → (let given : Given = record { variables = variables_of sources.variables.items; document = file_document file } in unwrap_or (unless_fault (fault_in (file_fault file) given) (configuration given)) default_config) ≡ default_config
  at Absent e none =
      let variables = variables_of sources.variables.items in
      ap (λ fault. unwrap_or (unless_fault fault (configuration (without_file variables))) default_config) (fault_none variables none) ∙ configuration_none variables none
  at Unreadable e none = let no : ⊥ = cc e in absurd no
  at (Toml text) e none = let no : ⊥ = cc e in absurd no
  at (Json text) e none = let no : ⊥ = cc e in absurd no
