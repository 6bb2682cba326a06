-- What parsed documents and the items mean that draw them.
use Rattle.std.specs.Prelude.{List}
use Rattle.serde_json.specs.View as json_view
use Rattle.toml.specs.View as toml_view
use Rattle.ptree.specs.declared.value.node.DocumentNode.{DocumentNode}
use Rattle.ptree.specs.declared.value.node.DocumentNode.TheVariants.{Labelled, Entry}
use Rattle.ptree.specs.declared.parsed.Parsed.{Parsed}
use Rattle.ptree.specs.declared.parsed.ParsedPart.{ParsedPart}
use Rattle.ptree.specs.declared.value.row.Row.{Row}
use Rattle.ptree.specs.declared.value.row.Row.TheVariants.{JsonItems, JsonMembers, TomlItems, TomlMembers}
use Rattle.ptree.specs.Convert.{json_data, json_items, json_entries, toml_data, toml_items, toml_entries}
use Rattle.ptree.specs.Data.{Data, Pair, string, item_pairs, entry_pair, entry_pairs}
use Rattle.ptree.specs.File.{FileNode, json, toml}
use Rattle.ptree.specs.Lent.{document_of, node_of}

-- the value that a value of a document is converted to
abbrev pub node_data : FileNode → Data
node_data (json d) = json_data d
node_data (toml d) = toml_data d

-- the value that a parsed document is converted to
abbrev pub parsed_of : Parsed → Data
parsed_of document = node_data (document_of document)

-- the value that a part of a parsed document is converted to
abbrev pub part_of : ParsedPart → Data
part_of part = node_data (node_of part)

-- the pair of label and value that a node draws
abbrev pub node_pair_of : DocumentNode → Pair
node_pair_of (Labelled label part) = (label.now, part_of part)
node_pair_of (Entry key part) = entry_pair (string key.now) (part_of part)

-- the pairs that a row has left
abbrev pub row_pairs : Row → List Pair
row_pairs (JsonItems vs) = item_pairs (json_items (json_view.items_view vs.now))
row_pairs (JsonMembers ms) = entry_pairs (json_entries (json_view.members_view ms))
row_pairs (TomlItems vs) = item_pairs (toml_items (toml_view.items_view vs.now))
row_pairs (TomlMembers ms) = entry_pairs (toml_entries (toml_view.members_view ms))
