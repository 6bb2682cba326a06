-- The warnings of entries are those of the keys that they are.
use Rattle.std.proofs.Common.{◌≡◌, ◌∙◌, ℕ, List, [], ◌∷◌, ◌++◌, Option, option_map, refl, ap, string_bytes, String, Global}
use Rattle.std.specs.Prelude.{flat_map}
use Rattle.ptree.specs.Fields.{all_fields}
use Rattle.ptree.specs.File.{as_text}
use Rattle.ptree.specs.Matched.{AreMatched}
use Rattle.ptree.specs.Sources.{given_by, variables_of, file_document}
use Rattle.ptree.specs.declared.print_config.Sources.{Sources}
use Rattle.ptree_sources.specs.Settings.{KeyValue, IsEntry, file_keys}
use Rattle.ptree_sources.specs.Warnings.{WarningValue, stray_warnings, unknown_key_warnings, variable_color_warnings, key_color_warnings, all_warnings}
use Rattle.ptree_sources.specs.declared.settings.keys.Entry.{Entry}

-- what a function gives of the table, key and text of each entry is what it gives of those of the
-- keys
matched_warnings : (w : Option (List ℕ) → List ℕ → Option (List ℕ) → List WarningValue) (ks : List KeyValue) (es : List Entry) → AreMatched IsEntry ks es
    → flat_map (λ e. w (option_map string_bytes e.table) (string_bytes e.key) (option_map string_bytes e.text)) es ≡ flat_map (λ k. w k.table k.key (as_text k.value)) ks
matched_warnings w [] [] h = refl
matched_warnings w [] (e ∷ es) h = absurd h
matched_warnings w (k ∷ ks) [] h = absurd h
matched_warnings w (k ∷ ks) (e ∷ es) h =
    let is : IsEntry k e = h.0 in
    let same : w (option_map string_bytes e.table) (string_bytes e.key) (option_map string_bytes e.text) ≡ w k.table k.key (as_text k.value) = cc (is.table, is.key, is.text) in
    let rest = matched_warnings w ks es h.1 in
    cc (same, rest)

-- the warnings of keys that are not known
pub unknown_of_entries : (ks : List KeyValue) (es : List Entry) → AreMatched IsEntry ks es
    → flat_map (λ e. unknown_key_warnings (option_map string_bytes e.table) (string_bytes e.key)) es ≡ flat_map (λ k. unknown_key_warnings k.table k.key) ks
unknown_of_entries ks es h = matched_warnings (λ table key text. unknown_key_warnings table key) ks es h

-- the warnings of keys of colours
pub colors_of_entries : (ks : List KeyValue) (es : List Entry) → AreMatched IsEntry ks es
    → flat_map (λ e. key_color_warnings (option_map string_bytes e.table) (string_bytes e.key) (option_map string_bytes e.text)) es
    ≡ flat_map (λ k. key_color_warnings k.table k.key (as_text k.value)) ks
colors_of_entries ks es h = matched_warnings key_color_warnings ks es h

-- the warnings of each kind, one kind after the other, are all warnings
pub all_gathered : (sources : Sources) (vs : List (String Global × String Global)) (es fs gs : List Entry) (a b c d e : List WarningValue)
    → AreMatched IsEntry (file_keys (file_document sources.file)) es → a ≡ [] → vs ≡ sources.variables.items → fs ≡ es → gs ≡ es
    → b ≡ a ++ flat_map (λ v. stray_warnings v.0) (variables_of vs)
    → c ≡ b ++ flat_map (λ e. unknown_key_warnings (option_map string_bytes e.table) (string_bytes e.key)) fs
    → d ≡ c ++ flat_map (variable_color_warnings (given_by sources)) all_fields
    → e ≡ d ++ flat_map (λ e. key_color_warnings (option_map string_bytes e.table) (string_bytes e.key) (option_map string_bytes e.text)) gs
    → e ≡ all_warnings sources
all_gathered sources vs es fs gs a b c d e matched none vars first second h i j k =
    let keys = file_keys (file_document sources.file) in
    let by_variable : List WarningValue = flat_map (λ v. stray_warnings v.0) (variables_of sources.variables.items) in
    let by_key : List WarningValue = flat_map (λ k. unknown_key_warnings k.table k.key) keys in
    let by_field : List WarningValue = flat_map (variable_color_warnings (given_by sources)) all_fields in
    let by_color : List WarningValue = flat_map (λ k. key_color_warnings k.table k.key (as_text k.value)) keys in
    let of_variables : b ≡ by_variable = h ∙ ap (λ z. z ++ flat_map (λ v. stray_warnings v.0) (variables_of vs)) none ∙ ap (λ z. flat_map (λ v. stray_warnings v.0) (variables_of z)) vars in
    let of_keys : c ≡ by_variable ++ by_key =
    i ∙ ap (λ z. b ++ flat_map (λ e. unknown_key_warnings (option_map string_bytes e.table) (string_bytes e.key)) z) first
    ∙ ap (λ z. b ++ z) (unknown_of_entries keys es matched) ∙ ap (λ z. z ++ by_key) of_variables in
    let of_fields : d ≡ (by_variable ++ by_key) ++ by_field = j ∙ ap (λ z. z ++ by_field) of_keys in
    k ∙ ap (λ z. d ++ flat_map (λ e. key_color_warnings (option_map string_bytes e.table) (string_bytes e.key) (option_map string_bytes e.text)) z) second
    ∙ ap (λ z. d ++ z) (colors_of_entries keys es matched) ∙ ap (λ z. z ++ by_color) of_fields
