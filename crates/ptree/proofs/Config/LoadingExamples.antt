-- Examples of sources and their configurations, by computation.
use Rattle.std.proofs.Common.{◌≡◌, true, [], ◌∷◌, Option, Some, None, refl, inr}
use Rattle.std.specs.Prelude.{codes}
use Rattle.serde_json.proofs.OnLiterals.{serde_json_on_literals}
use Rattle.toml.proofs.OnLiterals.{toml_on_literals}
use Rattle.ptree.specs.Characters.{ascii_tick}
use Rattle.ptree.specs.Config.{ConfigValue, default_config}
use Rattle.ptree.specs.File.{FileNode}
use Rattle.ptree.specs.Loading.{characters, loaded_style, configuration, fault_in}
use Rattle.ptree.specs.Style.{plain_value}
use Rattle.ptree.specs.Sources.{Variables, Given, toml_document, json_document, last_value, variable, table_at, node}
use Rattle.ptree.specs.declared.print_config.fields.Field.TheVariants.{Depth}
use Rattle.ptree.specs.declared.print_config.loader.Fault.TheVariants as fault

-- what is looked into: these variables and a document
abbrev given : Variables → Option FileNode → Given
given variables document = record { variables = variables; document = document }

-- the sources have no fault and this configuration
abbrev Gives : Given → ConfigValue → Type 0
Gives given config = (fault_in None given ≡ None) × (configuration given ≡ config)

-- no sources
nothing : Gives (given [] None) default_config
unfolding characters loaded_style configuration fault_in last_value variable table_at node
nothing = (refl, refl)

-- the last variable counts, and a key for branches removes their default dimming
last_one : Gives (given ((codes "PTREE_DEPTH", codes "4") ∷ (codes "ptree_depth", codes "5") ∷ []) (json_document (codes "{\"branch\":{\"foreground\":\"red\"}}")))
    (record default_config { depth = 5; branch = record plain_value { foreground = Some (inr (codes "red")) } })
unfolding characters loaded_style configuration fault_in last_value variable table_at node serde_json_on_literals
last_one = (refl, refl)

-- a variable's fault comes first
bad_one : fault_in None (given ((codes "PTREE_DEPTH", codes "4x") ∷ []) None) ≡ Some (fault.Variable Depth)
unfolding fault_in last_value variable table_at node
bad_one = refl

-- a file and variables
both : Gives (given ((codes "PTREE_LEAF_BACKGROUND", codes "steelblue") ∷ (codes "PTREE_LEAF_BOLD", codes "true") ∷ (codes "PTREE_DEPTH", codes "4") ∷ [])
    (toml_document (codes "indent = 5\n[leaf]\nforeground = \"green\"")))
    (record default_config { depth = 4; indent = 5; leaf = record plain_value { foreground = Some (inr (codes "green")); background = Some (inr (codes "steelblue")); bold = true } })
unfolding characters loaded_style configuration fault_in last_value variable table_at node toml_on_literals
both = (refl, refl)

-- a set, and a variable for a single character of it
one_character : Gives (given ((codes "PTREE_CHARACTERS", codes "ASCII") ∷ (codes "PTREE_CHARACTERS_RIGHT", codes "=") ∷ []) (toml_document (codes "characters = \"utf-bold\"")))
    (record default_config { characters = record ascii_tick { right = codes "=" } })
unfolding characters loaded_style configuration fault_in last_value variable table_at node toml_on_literals
one_character = (refl, refl)
