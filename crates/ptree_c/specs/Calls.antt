-- What the calls of C draw and read, and why not.
use Rattle.std.specs.Prelude.{◌≡◌, ◌<◌, ◌⊎◌, ⊤, ℕ, List, Ok, Err, false, IsUtf8}
use Rattle.ptree.specs.Continuation.{EndsWrong, IsFirstWrongLine}
use Rattle.ptree.specs.Data.{Data, pair_shape}
use Rattle.ptree.specs.Document.{document}
use Rattle.ptree.specs.Config.{ConfigValue}
use Rattle.ptree.specs.Drawing.{Look, look_by, IsDrawing}
use Rattle.ptree.specs.DrawnForm.{IsDrawnForm}
use Rattle.ptree.specs.Outline.{IsOutline, outline}
use Rattle.ptree.specs.Readable.{IsReadableWith}
use Rattle.ptree.specs.Tree.{Tree, shape_of_tree}
use Rattle.ptree.specs.declared.print_config.OutputKind.TheVariants.{Stdout}
use Rattle.ptree.specs.declared.value.document.DocError.TheVariants as error
use Rattle.ptree.specs.declared.value.document.DocFormat.{DocFormat}
use Rattle.ptree.specs.declared.value.document.DocFormat.TheVariants.{Toml, Json}
use Rattle.ptree_c.specs.Items.{lines_from, items_from, joined_texts}
use Rattle.ptree_c.specs.declared.items.Item.{Item}
use Rattle.ptree_c.specs.declared.refusal.Refusal.{Refusal}
use Rattle.ptree_c.specs.declared.refusal.Refusal.TheVariants.{Memory, Utf8, Pieces, Line, Incomplete, Syntax, Float, Date, Format}

-- the bytes are the drawing of the tree whose outline the items and the texts give
abbrev pub IsItemsDrawing : Look → ℕ → List Item → List ℕ → List ℕ → Type 0
IsItemsDrawing look depth items texts drawing =
    (t : Tree) × IsOutline t (lines_from 0 texts items) × IsDrawing look (shape_of_tree t) depth drawing

-- the items and texts are the outline of the tree whose drawing the text is
abbrev pub AreItemsOf : Look → ℕ → List ℕ → List Item → List ℕ → Type 0
AreItemsOf look depth text items texts =
    (t : Tree) × IsDrawnForm look depth text t × (items ≡ items_from 0 (outline t)) × (texts ≡ joined_texts (outline t))

-- why a text is not read: it has a first wrong line, it is incomplete, it is not UTF-8, the pieces are not readable, or memory ran out
abbrev pub IsReadRefusal : Look → ℕ → List ℕ → Refusal → Type 0
IsReadRefusal look depth text Memory = ⊤
IsReadRefusal look depth text (Utf8 n) = (n ≡ 0) × (IsUtf8 text → ⊥)
IsReadRefusal look depth text Pieces = IsReadableWith look.pieces look.marker → ⊥
IsReadRefusal look depth text (Line n) = IsFirstWrongLine look depth text n
IsReadRefusal look depth text Incomplete = EndsWrong look depth text
IsReadRefusal look depth text _ = ⊥

-- 0 is JSON, and 1 is TOML
abbrev pub IsFormat : ℕ → DocFormat → Type 0
IsFormat n format = ((n ≡ 0) × (format ≡ Json)) ⊎ ((n ≡ 1) × (format ≡ Toml))

-- the text is a document of a format, and the bytes are the drawing of the label and its value
abbrev pub IsDrawingOfDocument : ConfigValue → DocFormat → List ℕ → List ℕ → List ℕ → Type 0
IsDrawingOfDocument config format label text drawing =
    (v : Data) × (document format text ≡ Ok v) × IsDrawing (look_by config Stdout false) (pair_shape (label, v)) config.depth drawing

-- the same of a format by its number
abbrev pub IsDocumentDrawing : ConfigValue → ℕ → List ℕ → List ℕ → List ℕ → Type 0
IsDocumentDrawing config number label text drawing =
    (format : DocFormat) × IsFormat number format × IsDrawingOfDocument config format label text drawing

-- why the text of a document is refused: for what it is in its format, or memory ran out
abbrev pub IsTextRefusal : DocFormat → List ℕ → Refusal → Type 0
IsTextRefusal format text Memory = ⊤
IsTextRefusal format text Syntax = document format text ≡ Err error.Syntax
IsTextRefusal format text Float = document format text ≡ Err error.Float
IsTextRefusal format text Date = document format text ≡ Err error.Date
IsTextRefusal format text _ = ⊥

-- likewise of a format by its number; or there is none, or the text or the label is not UTF-8
abbrev pub IsDocumentRefusal : ℕ → List ℕ → List ℕ → Refusal → Type 0
IsDocumentRefusal number label text e =
    ((format : DocFormat) × IsFormat number format × IsTextRefusal format text e) ⊎ ((e ≡ Format) × (1 < number)) ⊎ ((e ≡ Utf8 0) × (IsUtf8 text → ⊥))
    ⊎ ((e ≡ Utf8 1) × (IsUtf8 label → ⊥))
