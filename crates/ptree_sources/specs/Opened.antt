-- What the result of opening and reading a file is as a source of a configuration.
use Rattle.std.specs.Prelude.{◌≡◌, ℕ, List, Bool, true, false, nat_eq, codes, string_bytes, Option, Some, None, IsSomeAnd, IsUtf8}
use Rattle.std.specs.List.{ends_with}
use Rattle.ptree.specs.declared.print_config.FileSource.{FileSource}
use Rattle.ptree.specs.declared.print_config.FileSource.TheVariants.{Absent, Unreadable, Toml, Json}
use Rattle.ptree_sources.specs.declared.opened.Opened.{Opened}
use Rattle.ptree_sources.specs.declared.opened.Opened.TheVariants.{Missing, Refused, Read}

-- whether the file at a path is in JSON
abbrev pub is_json : List ℕ → Bool
is_json path = ends_with nat_eq path (codes ".json")

-- the bytes of a file at this path are this source: a text in the format of the path's ending (TOML
-- for any other ending), or unreadable
abbrev pub IsFile : List ℕ → List ℕ → FileSource → Type 0
IsFile path bytes Absent = ⊥
IsFile path bytes Unreadable = IsUtf8 bytes → ⊥
IsFile path bytes (Toml text) = (is_json path ≡ false) × (string_bytes text ≡ bytes)
IsFile path bytes (Json text) = (is_json path ≡ true) × (string_bytes text ≡ bytes)

-- no source if the file is missing, an unreadable one if it was refused, else the source of its
-- bytes
abbrev pub IsSource : List ℕ → Opened → Option FileSource → Type 0
IsSource path Missing result = result ≡ None
IsSource path Refused result = result ≡ Some Unreadable
IsSource path (Read bytes) result = IsSomeAnd result (IsFile path bytes.items)
