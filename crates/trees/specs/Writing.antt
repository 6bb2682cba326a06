-- What calls write.
use Rattle.std.specs.Io.KnownBytes.{Appends}
use Rattle.std.specs.List.{AllByRecursion}
use Rattle.std.specs.Prelude.{◌≡◌, ◌<◌, ◌≤◌, ◌⊎◌, ⊤, ℕ, Bool, true, false, if◌then◌else◌, List, [], ◌++◌, Option, None, Result, Ok, Err, IsErr, OnOk, codes, string_bytes}
use Rattle.ptree.specs.declared.print_config.OutputKind.TheVariants.{Unknown}
use Rattle.ptree.specs.declared.print_config.Sources.{Sources}
use Rattle.ptree.specs.declared.print_config.StyleWhen.TheVariants.{Never}
use Rattle.ptree.specs.declared.value.document.DocFormat.TheVariants.{Toml, Json}
use Rattle.ptree.specs.Config.{ConfigValue}
use Rattle.ptree.specs.Drawing.{look_by, IsDrawing}
use Rattle.ptree.specs.Graph.{edges_of, neighbors_of, node_shape}
use Rattle.ptree.specs.Loading.{effective_config}
use Rattle.ptree.specs.Outline.{outline}
use Rattle.ptree.specs.Occurrence.{OccurrenceTree, IsExpandedOnce, occurrence_shape}
use Rattle.ptree.specs.Tree.{Tree, tree_of, shape_of_tree}
use Rattle.ptree.specs.Writing.{AppendsPart}
use Rattle.ptree_trees.specs.Escape.{escaped_text, mapped_tree}
use Rattle.ptree_trees.specs.Indented.{IsLineText, IsIndentedForm}
use Rattle.ptree_trees.specs.declared.indented.Form.{Form}
use Rattle.trees.specs.declared.command.Command.{Command}
use Rattle.trees.specs.declared.command.Command.TheVariants as command
use Rattle.trees.specs.declared.command.Convert.{Convert}
use Rattle.trees.specs.declared.command.Deps.{Deps}
use Rattle.trees.specs.declared.command.Diff.{Diff}
use Rattle.trees.specs.declared.command.Drawing.{Drawing}
use Rattle.trees.specs.declared.command.Indented.{Indented}
use Rattle.trees.specs.declared.command.Tree.{Tree as Given}
use Rattle.trees.specs.declared.command.Tree.TheVariants as given
use Rattle.trees.specs.declared.deps.Dependencies.{Dependencies}
use Rattle.trees.specs.declared.failure.Failure.{Failure}
use Rattle.trees.specs.declared.failure.Failure.TheVariants.{Usage, Input, Said, Output, Memory}
use Rattle.trees.specs.declared.perform.drawn.Drawn.{Drawn}
use Rattle.trees.specs.declared.perform.drawn.Drawn.TheVariants as drawn
use Rattle.trees.specs.declared.pieces.Pieces.{Pieces}
use Rattle.trees.specs.declared.source.Source.{Source}
use Rattle.trees.specs.Asked.{drawing_value, reading_value}
use Rattle.trees.specs.Changing.{IsConverted, FailsToConvert}
use Rattle.trees.specs.Documents.{IsPartTree, NamesWrong}
use Rattle.trees.specs.Levels.{HasMoreLevels}
use Rattle.trees.specs.Listing.{IsListed, FailsToList}
use Rattle.trees.specs.Meaning.{HoldsNoGraph, IsGraphOf}
use Rattle.trees.specs.Merging.{IsComparison, IsMergeDrawing, IsMergeCode}
use Rattle.trees.specs.Outlining.{text_or, HoldsOutline, FailsToOutline, IsReadBack, LosesText}
use Rattle.trees.specs.Named.{IsReadableValue}
use Rattle.trees.specs.Reading.{IsWriting, HoldsDrawing, FailsFor, FailsToMake, FailsToRead, IsReport, Adds}
use Rattle.trees.specs.Settings.{SaysSettings}
use Rattle.trees.specs.Shown.{shown_lines, shown_on, shown_text, IsNone, ShowsOnly, IsLookCode}

-- bytes of which Is holds were appended
abbrev pub AppendsSome : Option (List ℕ) → Option (List ℕ) → (List ℕ → Type 0) → Type 0
AppendsSome old new Is = (bytes : List ℕ) × Is bytes × Appends old new bytes

-- Success has appended bytes of which Is holds. A failure of which Fails holds has appended nothing; or
-- the output failed or memory ran out, and a prefix of such bytes was appended.
abbrev pub Writes : {A : Type 0} → Option (List ℕ) → Option (List ℕ) → Result A Failure → (List ℕ → Type 0) → (Failure → Type 0) → Type 0
Writes old new (Ok x) Is Fails = AppendsSome old new Is
Writes old new (Err e) Is Fails = (Fails e × Appends old new []) ⊎ (IsWriting e × (bytes : List ℕ) × Is bytes × AppendsPart old new bytes)

-- Success has appended what Done says, and `Said` bytes of which Is holds. Any other failure has appended
-- what `Writes` says.
abbrev pub WritesOr : {A : Type 0} → Type 0 → Option (List ℕ) → Option (List ℕ) → Result A Failure → (List ℕ → Type 0) → (Failure → Type 0) → Type 0
WritesOr Done old new (Ok x) Is Fails = Done
WritesOr Done old new (Err Said) Is Fails = AppendsSome old new Is
WritesOr {A} Done old new (Err (Usage wrong)) Is Fails = Writes {A = A} old new (Err (Usage wrong)) Is Fails
WritesOr {A} Done old new (Err (Input wrong)) Is Fails = Writes {A = A} old new (Err (Input wrong)) Is Fails
WritesOr {A} Done old new (Err (Output kind)) Is Fails = Writes {A = A} old new (Err (Output kind)) Is Fails
WritesOr {A} Done old new (Err Memory) Is Fails = Writes {A = A} old new (Err Memory) Is Fails

-- the same where success has appended nothing
abbrev pub WritesRefusal : {A : Type 0} → Option (List ℕ) → Option (List ℕ) → Result A Failure → (List ℕ → Type 0) → (Failure → Type 0) → Type 0
WritesRefusal old new result = WritesOr (Appends old new []) old new result

-- the same where success has appended such bytes too
abbrev pub WritesSaid : {A : Type 0} → Option (List ℕ) → Option (List ℕ) → Result A Failure → (List ℕ → Type 0) → (Failure → Type 0) → Type 0
WritesSaid old new result Is = WritesOr (AppendsSome old new Is) old new result Is

-- after a usage error and after an error of an input, what a call writes to is as it was
abbrev pub LeavesIfWrong : {A W : Type 0} → W → W → Result A Failure → Type 0
LeavesIfWrong old new (Ok x) = ⊤
LeavesIfWrong old new (Err (Usage wrong)) = new ≡ old
LeavesIfWrong old new (Err (Input wrong)) = new ≡ old
LeavesIfWrong old new (Err Said) = ⊤
LeavesIfWrong old new (Err (Output kind)) = ⊤
LeavesIfWrong old new (Err Memory) = ⊤

-- ## Drawings

-- a tree as it is written: for a terminal with its texts escaped
abbrev pub shown_tree : Bool → Tree → Tree
shown_tree is_terminal t = if is_terminal then mapped_tree escaped_text t else t

-- the bytes are the drawing of a tree under a configuration, for a terminal with its texts escaped
abbrev pub IsTreeDrawing : ConfigValue → Bool → Tree → List ℕ → Type 0
IsTreeDrawing config is_terminal t bytes = IsDrawing (look_by config Unknown false) (shape_of_tree (shown_tree is_terminal t)) config.depth bytes

-- the bytes are the drawing of a graph from its root on, under a configuration: of its walks, or of it
-- with each node expanded once, and ` (*)` behind what is repeated
abbrev pub IsGraphDrawing : ConfigValue → Dependencies → Bool → List ℕ → Type 0
IsGraphDrawing config found true bytes = IsDrawing (look_by config Unknown false) (node_shape string_bytes found.graph found.root.0) config.depth bytes
IsGraphDrawing config found false bytes =
    (t : OccurrenceTree) × IsExpandedOnce (neighbors_of (edges_of found.graph)) found.root.0 config.depth t
    × IsDrawing (look_by config Unknown false) (occurrence_shape string_bytes found.graph (codes " (*)") t) config.depth bytes

-- more than 5,000 levels of a graph are asked for, and there are more
abbrev pub IsGraphTooDeep : ConfigValue → Dependencies → Bool → Type 0
IsGraphTooDeep config found walks = (5000 < config.depth) × HasMoreLevels (edges_of found.graph) found.root.0 walks

-- a tree, a graph, or a merge of two trees is drawn. Of a merge the call never succeeds, and of a graph
-- it says that the input is wrong only if it is too deep
abbrev pub WritesDrawn : {A : Type 0} → ConfigValue → Bool → Drawn → Option (List ℕ) → Option (List ℕ) → Result A Failure → Type 0
WritesDrawn config is_terminal (drawn.Tree item) old new result = Writes old new result (IsTreeDrawing config is_terminal (tree_of item.now)) (λ e. e ≡ Memory)
WritesDrawn config is_terminal (drawn.Graph source found walks) old new result = Writes old new result (IsGraphDrawing config found.now walks) (FailsFor (IsGraphTooDeep config found.now walks) ⊥)
WritesDrawn config is_terminal (drawn.Both left right) old new result =
    IsErr result × WritesRefusal old new result (IsMergeDrawing config is_terminal (tree_of left.now) (tree_of right.now)) (λ e. e ≡ Memory)

-- the bytes are the drawing, as it is asked for, of a tree of which Is holds
abbrev pub IsDrawingOf : Sources → Drawing → (Tree → Type 0) → List ℕ → Type 0
IsDrawingOf sources drawing Is bytes = (t : Tree) × Is t × IsTreeDrawing (drawing_value sources drawing) drawing.screen.is_terminal t bytes

-- ## Indented text

-- the bytes are the indented form of a tree with a unit and a bullet, for a terminal with its texts and
-- the bullet escaped
abbrev pub IsShownForm : Bool → List ℕ → List ℕ → Tree → List ℕ → Type 0
IsShownForm is_terminal unit bullet t bytes = (form : Form) × (form.unit.now ≡ unit) × (form.bullet.now ≡ shown_text is_terminal bullet) × IsIndentedForm form bytes (shown_tree is_terminal t)

-- each text of a tree as it is written, with the bullet before it, can stand after an indent
abbrev pub AreShownTexts : Bool → List ℕ → Tree → Type 0
AreShownTexts is_terminal bullet t = AllByRecursion (λ l. IsLineText (shown_text is_terminal bullet ++ l.text)) (outline (shown_tree is_terminal t))

-- the bytes are what `indented` writes of a tree
abbrev pub IsIndented : Indented → Tree → List ℕ → Type 0
IsIndented indented t bytes = IsShownForm indented.is_terminal indented.unit.now (text_or indented.bullet []) t bytes

-- the bytes are what `indented` writes of the tree whose drawing the source holds, and `outline` makes
-- that tree of them again, if what is written can be read back
abbrev pub IsIndentation : Sources → Source → Indented → List ℕ → Type 0
IsIndentation sources source indented bytes =
    (t : Tree) × HoldsDrawing (reading_value sources indented.pieces) source t × IsIndented indented t bytes × IsReadBack indented t bytes

-- what each failure before anything is written says: the source holds no drawing, or that of a tree of
-- which a text is lost; or the pieces are not readable, or memory ran out
abbrev pub FailsToIndent : Sources → Source → Indented → Failure → Type 0
FailsToIndent sources source indented =
    let config = reading_value sources indented.pieces in
    FailsFor ((t : Tree) → HoldsDrawing config source t → LosesText indented t) (IsReadableValue config → ⊥)

-- ## Commands

-- t is the tree of a document, of paths, or of indented text
abbrev pub IsGiven : Source → Given → Tree → Type 0
IsGiven source (given.Json document) t = IsPartTree Json source document t
IsGiven source (given.Toml document) t = IsPartTree Toml source document t
IsGiven source (given.Paths paths) t = IsListed source paths t
IsGiven source (given.Outline outline) t = HoldsOutline source outline t

-- what each failure before anything is drawn says: there is no such tree, or of `outline` the unit or
-- the bullet is not right, or memory ran out; an error of a document names what is wrong with it
abbrev pub FailsToGive : Source → Given → Failure → Type 0
FailsToGive source (given.Json document) e = FailsToMake ⊥ (IsPartTree Json source document) e × NamesWrong Json source document e
FailsToGive source (given.Toml document) e = FailsToMake ⊥ (IsPartTree Toml source document) e × NamesWrong Toml source document e
FailsToGive source (given.Paths paths) e = FailsToList source paths e
FailsToGive source (given.Outline outline) e = FailsToOutline source outline e

-- the drawing of the tree of an input is written
abbrev pub Draws : {A : Type 0} → Sources → Source → Given → Drawing → Option (List ℕ) → Option (List ℕ) → Result A Failure → Type 0
Draws sources source tree drawing old new result = Writes old new result (IsDrawingOf sources drawing (IsGiven source tree)) (FailsToGive source tree)

-- the bytes are the drawing, as it is asked for, of the graph that the source means
abbrev pub IsNeedsDrawing : Sources → Source → Deps → Drawing → List ℕ → Type 0
IsNeedsDrawing sources source deps drawing bytes =
    (d : Dependencies) × IsGraphOf source deps.root deps.is_inverse drawing.screen.is_terminal d × IsGraphDrawing (drawing_value sources drawing) d deps.walks bytes

-- the source means a graph that is too deep for what is asked
abbrev pub MeansTooDeep : Sources → Source → Deps → Drawing → Type 0
MeansTooDeep sources source deps drawing =
    (d : Dependencies) × IsGraphOf source deps.root deps.is_inverse drawing.screen.is_terminal d × IsGraphTooDeep (drawing_value sources drawing) d deps.walks

-- what each failure before anything is written says: lines of two words hold none, or no word is the root that
-- is asked for; or the graph is too deep, or memory ran out. Of a lock file it says nothing else
abbrev pub FailsToDepend : Sources → Source → Deps → Drawing → Failure → Type 0
FailsToDepend sources source deps drawing = FailsFor (HoldsNoGraph source deps.root ⊎ MeansTooDeep sources source deps drawing) ⊥

-- the drawing of the graph of an input is written
abbrev pub DrawsNeeds : {A : Type 0} → Sources → Source → Deps → Drawing → Option (List ℕ) → Option (List ℕ) → Result A Failure → Type 0
DrawsNeeds sources source deps drawing old new result = Writes old new result (IsNeedsDrawing sources source deps drawing) (FailsToDepend sources source deps drawing)

-- the bytes are what `convert` writes of a source
abbrev pub IsConversion : Sources → Source → Convert → List ℕ → Type 0
IsConversion sources source convert = IsDrawingOf sources convert.drawing (IsConverted sources source convert)

-- the conversion is written
abbrev pub Converts : {A : Type 0} → Sources → Source → Convert → Option (List ℕ) → Option (List ℕ) → Result A Failure → Type 0
Converts sources source convert old new result = Writes old new result (IsConversion sources source convert) (FailsToConvert sources source convert)

-- a conversion changes the pieces alone: all is kept and in its order, with all levels that are read,
-- without colours and escapes
pub record ChangesPieces (sources : Sources) (convert : Convert) : Type 0 where
  pub whole : convert.keep ≡ None
  pub unsorted : convert.is_sorted ≡ false
  pub unescaped : convert.drawing.screen.is_terminal ≡ false
  pub plain : (drawing_value sources convert.drawing).styled ≡ Never
  pub deep : 5000 ≤ (drawing_value sources convert.drawing).depth

-- the way back: of what one conversion made of a first source, one with the pieces exchanged that
-- succeeds makes that source's text again, if both change the pieces alone, and it reads with pieces
-- that are readable
abbrev pub ConvertsBack : {A : Type 0} → Sources → Source → Convert → Option (List ℕ) → Option (List ℕ) → Result A Failure → Type 0
ConvertsBack sources source back old new result =
    (first : Source) (there : Convert) → ChangesPieces sources there → ChangesPieces sources back
    → back.pieces ≡ there.drawing.pieces → back.drawing.pieces ≡ there.pieces → IsReadableValue (reading_value sources back.pieces)
    → IsConversion sources first there (string_bytes source.text) → OnOk result (Appends old new (string_bytes first.text))

-- the bytes are what `diff` writes of the trees whose drawings two sources hold
abbrev pub IsComparisonOf : Sources → Source → Source → Diff → List ℕ → Type 0
IsComparisonOf sources left right diff bytes =
    let config = reading_value sources diff.drawing.pieces in
    (t : Tree) × (u : Tree) × HoldsDrawing config left t × HoldsDrawing config right u
    × IsComparison diff.shows_all (drawing_value sources diff.drawing) diff.drawing.screen.is_terminal t u bytes

-- what each failure before anything is written says: what reading one of the sources says
abbrev pub FailsToCompare : Sources → Source → Source → Diff → Failure → Type 0
FailsToCompare sources left right diff e =
    let config = reading_value sources diff.drawing.pieces in
    FailsToRead config left e ⊎ FailsToRead config right e

-- `Said` has written this, and success nothing
abbrev pub Compares : {A : Type 0} → Sources → Source → Source → Diff → Option (List ℕ) → Option (List ℕ) → Result A Failure → Type 0
Compares sources left right diff old new result = WritesRefusal old new result (IsComparisonOf sources left right diff) (FailsToCompare sources left right diff)

-- the bytes are what `check` writes: a report on each input, in their order, for a terminal escaped
abbrev pub AreReports : Sources → List Source → Option Pieces → Bool → List ℕ → Type 0
AreReports sources inputs pieces is_terminal bytes = (said : List ℕ) × Adds (IsReport (reading_value sources pieces)) inputs [] said × (bytes ≡ shown_on is_terminal said)

-- what each failure before anything is written says: the pieces are not readable, or memory ran out
abbrev pub FailsToCheck : Sources → Option Pieces → Failure → Type 0
FailsToCheck sources pieces = FailsFor ⊥ (IsReadableValue (reading_value sources pieces) → ⊥)

-- the bytes are what `config` writes: a text, escaped, that ends with the settings that hold
abbrev pub AreSettings : Sources → List ℕ → Type 0
AreSettings sources bytes = (said : List ℕ) × SaysSettings (effective_config sources) said × (bytes ≡ shown_lines said)

-- what a command writes: those that draw an input, the drawing of its tree; `deps`, that of its graph;
-- `indented`, the indented text; `check`, the reports; `convert`, the conversion, which can be turned back;
-- `diff`, the first difference or all; `config`, the settings
abbrev pub WritesOfCommand : {A : Type 0} → Sources → Command → Option (List ℕ) → Option (List ℕ) → Result A Failure → Type 0
WritesOfCommand sources (command.Convert source convert) old new result = Converts sources source.now convert old new result × ConvertsBack sources source.now convert old new result
WritesOfCommand sources (command.Draw source tree drawing) old new result = Draws sources source.now tree drawing old new result
WritesOfCommand sources (command.Deps source deps drawing) old new result = DrawsNeeds sources source.now deps drawing old new result
WritesOfCommand sources (command.Indented source indented) old new result = Writes old new result (IsIndentation sources source.now indented) (FailsToIndent sources source.now indented)
WritesOfCommand sources (command.Check inputs pieces screen) old new result = WritesSaid old new result (AreReports sources inputs.now pieces screen.is_terminal) (FailsToCheck sources pieces)
WritesOfCommand sources (command.Diff left right diff) old new result = Compares sources left.now right.now diff old new result
WritesOfCommand sources command.Config old new result = WritesSaid old new result (AreSettings sources) (λ e. e ≡ Memory)

-- on a terminal nothing is written that it acts on, but line feeds and the codes of a drawing's styles
abbrev pub ShowsDrawing : Sources → Drawing → Option (List ℕ) → Option (List ℕ) → Type 0
ShowsDrawing sources drawing = ShowsOnly drawing.screen.is_terminal (IsLookCode (look_by (drawing_value sources drawing) Unknown false))

-- the same of a merge, with the colours of what is in one tree alone, and of a first difference
abbrev pub ShowsMerged : Sources → Drawing → Option (List ℕ) → Option (List ℕ) → Type 0
ShowsMerged sources drawing = ShowsOnly drawing.screen.is_terminal (IsMergeCode (drawing_value sources drawing))

-- the same of a command: `indented` has its unit in place of codes, `check` and `config` have none, and
-- `config` is so in a file too
abbrev pub ShowsOfCommand : Sources → Command → Option (List ℕ) → Option (List ℕ) → Type 0
ShowsOfCommand sources (command.Draw source tree drawing) old new = ShowsDrawing sources drawing old new
ShowsOfCommand sources (command.Convert source convert) old new = ShowsDrawing sources convert.drawing old new
ShowsOfCommand sources (command.Indented source indented) old new = ShowsOnly indented.is_terminal (λ part. part ≡ indented.unit.now) old new
ShowsOfCommand sources (command.Check inputs pieces screen) old new = ShowsOnly screen.is_terminal IsNone old new
ShowsOfCommand sources (command.Deps source deps drawing) old new = ShowsDrawing sources drawing old new
ShowsOfCommand sources (command.Diff left right diff) old new = ShowsMerged sources diff.drawing old new
ShowsOfCommand sources command.Config old new = ShowsOnly true IsNone old new
