-- The pieces that other programs draw with are readable.
use Rattle.std.proofs.Common.{rules, ℕ, ◌+◌, ◌<◌, refl, inl, inr, arith}
use Rattle.ptree.specs.Config.{default_marker, ConfigValue}
use Rattle.ptree.specs.Characters.{ascii_tick, utf}
use Rattle.ptree.specs.Pieces.{pieces_from}
use Rattle.ptree.specs.Preset.{preset_of}
use Rattle.ptree.specs.Readable.{IsReadableWith}
use Rattle.ptree.specs.declared.presets.Preset.{Preset}
use Rattle.ptree.specs.declared.presets.Preset.TheVariants.{Tree, TreeAscii, CargoTree, CargoTreeAscii, Findmnt, FindmntAscii, Sqlite, Maven, Clang, Ps}
use Rattle.ptree.proofs.Pieces.DefaultMarker.{default_marker_readable}
use Rattle.ptree.proofs.Pieces.ShippedSets.{shipped_readable, tick_readable}

-- the pieces and the marker of a configuration are readable
abbrev pub IsReadableValue : ConfigValue → Type 0
IsReadableValue v = IsReadableWith (pieces_from v.characters v.indent v.padding) v.continued

-- the regular set is readable at every indent and padding
utf_readable : (indent padding : ℕ) → IsReadableWith (pieces_from utf indent padding) default_marker
utf_readable indent padding =
    default_marker_readable utf (inr (inr (inl refl))) indent padding (shipped_readable utf (inr (inl refl)) indent padding)

-- the set with ticks is readable if the indent exceeds 1 + padding
ticks_readable : (indent padding : ℕ) → 1 + padding < indent → IsReadableWith (pieces_from ascii_tick indent padding) default_marker
ticks_readable indent padding dash =
    default_marker_readable ascii_tick (inl refl) indent padding ((tick_readable indent padding).1 dash)

-- the presets are readable
pub preset_readable : (p : Preset) → IsReadableValue (preset_of p)
preset_readable Tree = search (rules)
preset_readable TreeAscii = ticks_readable 4 1 (omega arith)
preset_readable CargoTree = utf_readable 4 1
preset_readable CargoTreeAscii = ticks_readable 4 1 (omega arith)
preset_readable Findmnt = utf_readable 2 0
preset_readable FindmntAscii = ticks_readable 2 0 (omega arith)
preset_readable Sqlite = ticks_readable 3 0 (omega arith)
preset_readable Maven = utf_readable 3 1
preset_readable Clang = ticks_readable 2 0 (omega arith)
preset_readable Ps = search (rules)
