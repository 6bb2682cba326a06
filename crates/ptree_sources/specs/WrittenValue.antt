-- How the crates `serde_json` and `toml` write a value.
use Rattle.std.specs.Prelude.{◌≡◌, ℕ, ◌≤◌, false, List, Some}
use Rattle.serde_json.specs.Data.{depth}
use Rattle.serde_json.specs.Read.{read, max_depth}
use Rattle.serde_json.specs.Written.{has_float, compact_text}
use Rattle.toml.specs.Text.{IsValueText}
use Rattle.ptree.specs.File.{FileNode, json, toml}

-- A text is how a value is written. JSON is written without blanks; that of a float is one that
-- reads back as the float. TOML is written in one line, as on the right of `=`.
abbrev pub IsWrittenValue : FileNode → List ℕ → Type 0
IsWrittenValue (json d) text = (has_float d ≡ false → text ≡ compact_text d) × (depth d ≤ max_depth → read text ≡ Some d)
IsWrittenValue (toml d) text = IsValueText false d text
