-- Configurations that draw as other programs do.
use Rattle.std.specs.Prelude.{ℕ, [], ◌∷◌, codes}
use Rattle.ptree.specs.declared.presets.Preset.{Preset}
use Rattle.ptree.specs.declared.presets.Preset.TheVariants.{Tree, TreeAscii, CargoTree, CargoTreeAscii, Findmnt, FindmntAscii, Sqlite, Maven, Clang, Ps}
use Rattle.ptree.specs.Characters.{Characters, ascii_tick, utf}
use Rattle.ptree.specs.Config.{ConfigValue, default_config}

-- the pieces of `tree`: `├── `, a bar with two no-break spaces and a space, `└── `, and four spaces
abbrev pub tree_characters : Characters
tree_characters = record {
  down_and_right = 226 ∷ 148 ∷ 156 ∷ 226 ∷ 148 ∷ 128 ∷ 226 ∷ 148 ∷ 128 ∷ 32 ∷ [];
  down = 226 ∷ 148 ∷ 130 ∷ 194 ∷ 160 ∷ 194 ∷ 160 ∷ 32 ∷ [];
  turn_right = 226 ∷ 148 ∷ 148 ∷ 226 ∷ 148 ∷ 128 ∷ 226 ∷ 148 ∷ 128 ∷ 32 ∷ [];
  right = [];
  empty = codes "    ";
}

-- the pieces of `ps`: ` \_ ` twice, a bar with a blank before it and two after it, and four spaces
abbrev pub ps_characters : Characters
ps_characters = record {
  down_and_right = 32 ∷ 92 ∷ 95 ∷ 32 ∷ [];
  down = codes " |  ";
  turn_right = 32 ∷ 92 ∷ 95 ∷ 32 ∷ [];
  right = [];
  empty = codes "    ";
}

-- the default with other characters, indent and padding
abbrev pub drawn_with : Characters → ℕ → ℕ → ConfigValue
drawn_with c indent padding = record default_config { characters = c; indent = indent; padding = padding }

-- the configuration of a program
abbrev pub preset_of : Preset → ConfigValue
preset_of Tree = drawn_with tree_characters 0 0
preset_of TreeAscii = drawn_with ascii_tick 4 1
preset_of CargoTree = drawn_with utf 4 1
preset_of CargoTreeAscii = drawn_with ascii_tick 4 1
preset_of Findmnt = drawn_with utf 2 0
preset_of FindmntAscii = drawn_with ascii_tick 2 0
preset_of Sqlite = drawn_with ascii_tick 3 0
preset_of Maven = drawn_with utf 3 1
preset_of Clang = drawn_with ascii_tick 2 0
preset_of Ps = drawn_with ps_characters 0 0
