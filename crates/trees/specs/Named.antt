-- The names of pieces, and with which of them a text is read.
use Rattle.std.specs.Prelude.{◌≡◌, ◌⊎◌, ℕ, Bool, true, false, Some, List, ◌++◌, codes}
use Rattle.ptree.specs.declared.presets.Preset.{Preset}
use Rattle.ptree.specs.declared.presets.Preset.TheVariants.{Tree, TreeAscii, CargoTree, CargoTreeAscii, Findmnt, FindmntAscii, Sqlite, Maven, Clang, Ps}
use Rattle.ptree.specs.declared.print_config.OutputKind.TheVariants.{Unknown}
use Rattle.ptree.specs.Config.{ConfigValue}
use Rattle.ptree.specs.Drawing.{look_by}
use Rattle.ptree.specs.DrawnForm.{IsDrawnForm}
use Rattle.ptree.specs.Pieces.{pieces_from}
use Rattle.ptree.specs.Readable.{IsReadableWith}
use Rattle.ptree.specs.Tree as drawn
use Rattle.trees.specs.declared.pieces.Pieces.{Pieces}
use Rattle.trees.specs.declared.pieces.Pieces.TheVariants.{Utf, UtfBold, UtfDashed, UtfDouble, Ascii, AsciiPlus, Program}
use Rattle.trees.specs.Asked.{with_pieces}

-- the name of the pieces of a program
abbrev pub program_name : Preset → List ℕ
program_name Tree = codes "tree"
program_name TreeAscii = codes "tree-ascii"
program_name CargoTree = codes "cargo-tree"
program_name CargoTreeAscii = codes "cargo-tree-ascii"
program_name Findmnt = codes "findmnt"
program_name FindmntAscii = codes "findmnt-ascii"
program_name Sqlite = codes "sqlite"
program_name Maven = codes "maven"
program_name Clang = codes "clang"
program_name Ps = codes "ps"

-- the name of pieces
abbrev pub piece_name : Pieces → List ℕ
piece_name Utf = codes "utf"
piece_name UtfBold = codes "utf-bold"
piece_name UtfDashed = codes "utf-dashed"
piece_name UtfDouble = codes "utf-double"
piece_name Ascii = codes "ascii"
piece_name AsciiPlus = codes "ascii-plus"
piece_name (Program program) = program_name program

-- a text names pieces: it is their name, or that of the set with ticks in full
abbrev pub IsNamed : List ℕ → Pieces → Type 0
IsNamed name p = (name ≡ piece_name p) ⊎ ((name ≡ codes "ascii-tick") × (p ≡ Ascii))

-- the pieces and the marker of a configuration are readable
abbrev pub IsReadableValue : ConfigValue → Type 0
IsReadableValue config = IsReadableWith (pieces_from config.characters config.indent config.padding) config.continued

-- a configuration is readable, and a text is the drawing of some tree by it
pub record IsReadBy (config : ConfigValue) (text : List ℕ) : Type 0 where
  pub readable : IsReadableValue config
  pub form : (t : drawn.Tree) × IsDrawnForm (look_by config Unknown false) config.depth text t

-- it is not
abbrev pub IsUnreadBy : ConfigValue → List ℕ → Type 0
IsUnreadBy config text = IsReadBy config text → ⊥

-- the same with these pieces in place of the configuration's
abbrev pub IsReadWith : ConfigValue → List ℕ → Pieces → Type 0
IsReadWith config text p = IsReadBy (with_pieces (Some p) config) text

-- the same with no pieces that have a name
abbrev pub IsReadWithNone : ConfigValue → List ℕ → Type 0
IsReadWithNone config text = (p : Pieces) → IsReadWith config text p → ⊥

-- pieces are named with which the text is read
abbrev pub NamesOther : ConfigValue → List ℕ → List ℕ → Type 0
NamesOther config text said = (p : Pieces) × IsReadWith config text p × (said ≡ codes "\nit is a drawing with --as " ++ piece_name p)

-- such a name is added or, if there is none, nothing
abbrev pub AddsOther : ConfigValue → List ℕ → Bool → List ℕ → List ℕ → Type 0
AddsOther config text true old new = (said : List ℕ) × NamesOther config text said × (new ≡ old ++ said)
AddsOther config text false old new = IsReadWithNone config text × (new ≡ old)
