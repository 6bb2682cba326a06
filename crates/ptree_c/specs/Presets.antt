-- The configurations that C names by a number.
use Rattle.std.specs.Prelude.{◌≡◌, ◌<◌, ◌⊎◌, ℕ, false, List, [], ◌∷◌, map, get_or}
use Rattle.ptree.specs.Config.{ConfigValue, default_config}
use Rattle.ptree.specs.Drawing.{Look, look_by}
use Rattle.ptree.specs.Preset.{preset_of}
use Rattle.ptree.specs.Readable.{IsReadableWith}
use Rattle.ptree.specs.declared.print_config.OutputKind.TheVariants.{Unknown}
use Rattle.ptree.specs.declared.presets.Preset.TheVariants.{Tree, TreeAscii, CargoTree, CargoTreeAscii, Findmnt, FindmntAscii, Sqlite, Maven, Clang, Ps}
use Rattle.ptree_c.specs.declared.refusal.Refusal.{Refusal}
use Rattle.ptree_c.specs.declared.refusal.Refusal.TheVariants.{Memory, Preset, Pieces}

-- the default for 0, and from 1 on the presets
abbrev pub configs : List ConfigValue
configs =
    default_config ∷ map preset_of (Tree ∷ TreeAscii ∷ CargoTree ∷ CargoTreeAscii ∷ Findmnt ∷ FindmntAscii ∷ Sqlite ∷ Maven ∷ Clang ∷ Ps ∷ [])

-- the configuration of a number
abbrev pub numbered_config : ℕ → ConfigValue
numbered_config n = get_or configs n default_config

-- the configuration of a preset's number, with this depth
abbrev pub config_at : ℕ → ℕ → ConfigValue
config_at preset depth = record (numbered_config preset) { depth = depth }

-- the look of a preset's number
abbrev pub look_at : ℕ → ℕ → Look
look_at preset depth = look_by (config_at preset depth) Unknown false

-- the pieces and the marker of a preset's number are readable
abbrev pub IsReadablePreset : ℕ → Type 0
IsReadablePreset n = let look = look_at n 0 in IsReadableWith look.pieces look.marker

-- memory ran out, or there is no preset of that number
abbrev pub IsPresetRefusal : ℕ → Refusal → Type 0
IsPresetRefusal n e = (e ≡ Memory) ⊎ ((e ≡ Preset) × (10 < n))

-- likewise, or its pieces are not readable
abbrev pub IsReadableRefusal : ℕ → Refusal → Type 0
IsReadableRefusal n e = IsPresetRefusal n e ⊎ ((e ≡ Pieces) × (IsReadablePreset n → ⊥))
