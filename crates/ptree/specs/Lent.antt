-- What parsed documents mean, and what the loader lends.
use Rattle.std.specs.Prelude.{option_map}
use Rattle.serde_json.specs.View as j
use Rattle.toml.specs.View as t
use Rattle.ptree.specs.Characters.{Characters, characters_from}
use Rattle.ptree.specs.File.{FileNode, json, toml}
use Rattle.ptree.specs.Sources.{Given, variables_of}
use Rattle.ptree.specs.declared.parsed.Parsed.{Parsed}
use Rattle.ptree.specs.declared.parsed.Parsed.TheVariants as document
use Rattle.ptree.specs.declared.parsed.ParsedPart.{ParsedPart}
use Rattle.ptree.specs.declared.parsed.ParsedPart.TheVariants as node
use Rattle.ptree.specs.declared.print_config.given.Given as lent_given
use Rattle.ptree.specs.declared.print_config.lent.LentChars.{LentChars}

-- the value at the top of a parsed document
abbrev pub document_of : Parsed → FileNode
document_of (document.Json v) = json (j.view v)
document_of (document.Toml v) = toml (t.view v)

-- a value in its place in one
abbrev pub node_of : ParsedPart → FileNode
node_of (node.Json v) = json (j.view v.now)
node_of (node.Toml v) = toml (t.view v.now)

-- what is looked into, as the loader holds it
abbrev pub given_of : lent_given.Given → Given
given_of given = record { variables = variables_of given.variables.now; document = option_map node_of given.document }

-- the characters that it lends
abbrev pub lent_characters_of : LentChars → Characters
lent_characters_of c = characters_from c.down_and_right.now c.down.now c.turn_right.now c.right.now c.empty.now
