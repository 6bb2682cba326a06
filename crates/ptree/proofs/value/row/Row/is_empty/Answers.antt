use Rattle.std.proofs.Common.{◌∙◌, Bool, eqb, length, ap, sym, refl}
use Rattle.serde_json.specs.View as json
use Rattle.toml.specs.View as toml
use Rattle.ptree.specs.Convert.{json_data, json_items, json_entries, toml_data, toml_items, toml_entries}
use Rattle.ptree.specs.Parts.{row_pairs}
use Rattle.ptree.specs.declared.value.row.Row.{Row}
use Rattle.ptree.proofs.Values.Converted.{as_many, item_pairs_made, entry_pairs_made}
use Rattle.ptree.proofs.value.row.Row.is_empty.Goals as goal

-- whether a row has no pairs left
abbrev none_left : Row → Bool
none_left row = eqb (length (row_pairs row)) 0

pub returns-in-JsonItems : goal.returns-in-JsonItems
returns-in-JsonItems c =
    c.is_empty.ensures ∙ as_many _ c.in-JsonItems.items.now _ (item_pairs_made (λ v. json_data (json.view v)) (λ vs. json_items (json.items_view vs)) refl (λ v vs. refl) c.in-JsonItems.items.now)
    ∙ ap none_left (sym c.in-JsonItems.is)

pub returns-in-JsonMembers : goal.returns-in-JsonMembers
returns-in-JsonMembers c =
    ap (λ n. eqb n 0) c.len.ensures.value ∙ as_many _ c.in-JsonMembers.members _ (entry_pairs_made (λ v. json_data (json.view v)) (λ ms. json_entries (json.members_view ms)) refl (λ m ms. refl) c.in-JsonMembers.members)
    ∙ ap none_left (sym c.in-JsonMembers.is)

pub returns-in-TomlItems : goal.returns-in-TomlItems
returns-in-TomlItems c =
    c.is_empty-in-TomlItems.ensures ∙ as_many _ c.in-TomlItems.items.now _ (item_pairs_made (λ v. toml_data (toml.view v)) (λ vs. toml_items (toml.items_view vs)) refl (λ v vs. refl) c.in-TomlItems.items.now)
    ∙ ap none_left (sym c.in-TomlItems.is)

pub returns-in-TomlMembers : goal.returns-in-TomlMembers
returns-in-TomlMembers c =
    ap (λ n. eqb n 0) c.len-in-TomlMembers.ensures.value ∙ as_many _ c.in-TomlMembers.members _ (entry_pairs_made (λ v. toml_data (toml.view v)) (λ ms. toml_entries (toml.members_view ms)) refl (λ m ms. refl) c.in-TomlMembers.members)
    ∙ ap none_left (sym c.in-TomlMembers.is)
