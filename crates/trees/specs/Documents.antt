-- Documents, the parts of them that are asked for, and their trees.
use Rattle.std.specs.Borrow.{Bor}
use Rattle.std.specs.List.{slice_split}
use Rattle.std.specs.Prelude.{◌≡◌, ◌<◌, ◌^◌, ◌==◌, ◌⊎◌, ⊤, ℕ, Bool, true, false, List, [], ◌∷◌, ◌++◌, drop, codes, decimal, Option, Some, None, MatchOption, option_map, string_bytes}
use Rattle.std.specs.Str.Parse.{IsNumeral, digits_value}
use Rattle.std.specs.Str.Pattern.{RFindsChar}
use Rattle.serde_json.specs.Read.{read}
use Rattle.ptree.specs.declared.value.document.DocFormat.{DocFormat}
use Rattle.ptree.specs.declared.value.document.DocFormat.TheVariants.{Toml, Json}
use Rattle.ptree.specs.File.{FileNode, json, toml}
use Rattle.ptree.specs.Sources.{toml_document}
use Rattle.ptree.specs.Tree.{Tree}
use Rattle.ptree_trees.specs.Escape.{escaped_text}
use Rattle.ptree_trees.specs.RefusedPath.{StepValue, at_key, at_position, Path, json_at_step, toml_at_step, IsFirstFloat, IsFirstFloatOrDate}
use Rattle.ptree_trees.specs.WrittenDocument.{IsJsonTree, IsTomlTree}
use Rattle.trees.specs.declared.command.Document.{Document}
use Rattle.trees.specs.declared.failure.Failure.{Failure}
use Rattle.trees.specs.declared.source.Source.{Source}
use Rattle.trees.specs.Listing.{unmarked}
use Rattle.trees.specs.Reading.{IsInput, Says, SaysAt}

-- the document of a text, if it is one of the format; a byte order mark before it doesn't count
abbrev pub document_in : DocFormat → List ℕ → Option FileNode
document_in Json text = option_map json (read (unmarked text))
document_in Toml text = toml_document text

-- the source's text is this document
abbrev pub IsDocumentOf : DocFormat → Source → FileNode → Type 0
IsDocumentOf format source node = document_in format (string_bytes source.text) ≡ Some node

-- ## Parts

-- what stands at a step into a value
abbrev pub node_at : StepValue → FileNode → Option FileNode
node_at s (json d) = option_map json (json_at_step s d)
node_at s (toml d) = option_map toml (toml_at_step s d)

-- the digits of a text say a number of 64 bits
abbrev pub IsNumber : List ℕ → ℕ → Type 0
IsNumber text n = IsNumeral 10 text × (digits_value 10 text ≡ n) × (n < 2 ^ 64)

-- a text is a step: to the value at this key, or to the element at this position, counted from 0
abbrev pub IsStep : List ℕ → StepValue → Type 0
IsStep text (at_key key) = key ≡ text
IsStep text (at_position n) = IsNumber text n

-- what stands at the step that a text is, or none
abbrev pub FindsPart : FileNode → List ℕ → Option FileNode → Type 0
FindsPart whole text None = (s : StepValue) → IsStep text s → node_at s whole ≡ None
FindsPart whole text (Some part) = (s : StepValue) × IsStep text s × (node_at s whole ≡ Some part)

-- what stands between the full stops of a text
abbrev pub steps_in : List ℕ → List (List ℕ)
steps_in text = slice_split (λ b. b == 46) text

-- the texts are steps from a value to a part of it
abbrev pub LeadsBy : List (List ℕ) → FileNode → FileNode → Type 0
LeadsBy [] whole part = part ≡ whole
LeadsBy (text ∷ texts) whole part = (s : StepValue) × (next : FileNode) × IsStep text s × (node_at s whole ≡ Some next) × LeadsBy texts next part

-- the part of a value that is asked for: all of it, or what the steps lead to
abbrev pub IsPartAsked : Option (Bor (List ℕ)) → FileNode → FileNode → Type 0
IsPartAsked None whole part = part ≡ whole
IsPartAsked (Some at) whole part = LeadsBy (steps_in at.now) whole part

-- the path to the first value that a strict call refuses, or none
abbrev pub IsFirstRefused : FileNode → Option Path → Type 0
IsFirstRefused (json d) path = IsFirstFloat d path
IsFirstRefused (toml d) path = IsFirstFloatOrDate d path

-- a part is drawn by a call that is strict or not
abbrev pub IsAllowed : Bool → FileNode → Type 0
IsAllowed false part = ⊤
IsAllowed true part = IsFirstRefused part None

-- ## Trees

-- what follows the last slash of a path, or all of it
abbrev pub IsLastPart : List ℕ → List ℕ → Type 0
IsLastPart path text = (r : Option (ℕ × ℕ)) × RFindsChar 47 path r × MatchOption r (text ≡ path) (λ found. text ≡ drop found.1 path)

-- the text of the root: the label, or the steps, or the last part of the file's path
abbrev pub IsRootText : Option (Bor (List ℕ)) → Option (Bor (List ℕ)) → Source → List ℕ → Type 0
IsRootText (Some label) at source text = text ≡ label.now
IsRootText None (Some at) source text = text ≡ at.now
IsRootText None None source text = IsLastPart (string_bytes source.name) text

-- the tree of a value under a label
abbrev pub IsNodeTree : List ℕ → FileNode → Tree → Type 0
IsNodeTree label (json d) t = IsJsonTree label d t
IsNodeTree label (toml d) t = IsTomlTree label d t

-- t is the tree of the part of a value that is asked for
pub record IsTreeIn (source : Source) (document : Document) (whole : FileNode) (t : Tree) : Type 0 where
  pub part : FileNode
  pub label : List ℕ
  pub found : IsPartAsked document.at whole part
  pub allowed : IsAllowed document.is_strict part
  pub named : IsRootText document.label document.at source label
  pub drawn : IsNodeTree label part t

-- t is what `json` or `toml` draws of a source
pub record IsPartTree (format : DocFormat) (source : Source) (document : Document) (t : Tree) : Type 0 where
  pub whole : FileNode
  pub read : IsDocumentOf format source whole
  pub drawn : IsTreeIn source document whole t

-- ## Messages

-- the text of a step: its key or its position
abbrev pub step_text : StepValue → List ℕ
step_text (at_key key) = key
step_text (at_position n) = decimal n

-- the steps of a path, a full stop before each
abbrev pub steps_text : Path → List ℕ
steps_text [] = []
steps_text (s ∷ path) = codes "." ++ (step_text s ++ steps_text path)

-- the steps of a path behind others, or from the top
abbrev pub path_text : Bool → Path → List ℕ
path_text false path = steps_text path
path_text true [] = codes "the top"
path_text true (s ∷ path) = step_text s ++ steps_text path

-- where a path leads to from what was asked for: behind its keys, or from the top, the steps, escaped
abbrev pub place_text : Option (Bor (List ℕ)) → Path → List ℕ
place_text None path = escaped_text (path_text true path)
place_text (Some at) path = at.now ++ escaped_text (path_text false path)

-- what a strict call refuses in a format
abbrev pub refused_kind : DocFormat → List ℕ
refused_kind Json = codes "a float"
refused_kind Toml = codes "a float, a date or a time"

-- the failure says what a strict call refuses, and where its first place in a part is
abbrev pub NamesRefused : DocFormat → Source → Option (Bor (List ℕ)) → FileNode → Failure → Type 0
NamesRefused format source at part e = (path : Path) × IsFirstRefused part (Some path) × Says source (refused_kind format ++ (codes " is at " ++ place_text at path)) e

-- of steps from a value this is the first that leads to nothing: those before it lead to a part in
-- which nothing stands at it
abbrev pub IsFirstMissing : List (List ℕ) → FileNode → List ℕ → Type 0
IsFirstMissing steps whole key =
    (front : List (List ℕ)) × (behind : List (List ℕ)) × (part : FileNode) × (steps ≡ front ++ key ∷ behind) × LeadsBy front whole part × FindsPart part key None

-- keys as they are shown: the empty text as two quotation marks
abbrev pub shown_keys : List ℕ → List ℕ
shown_keys [] = codes "''"
shown_keys (b ∷ keys) = b ∷ keys

-- the failure says that nothing is at some keys, and which of these steps is the first that leads to
-- nothing
abbrev pub SaysMissing : Source → List ℕ → List (List ℕ) → FileNode → Failure → Type 0
SaysMissing source at steps whole e =
    (key : List ℕ) × IsFirstMissing steps whole key × Says source (codes "nothing at " ++ (shown_keys at ++ (codes ": there is no " ++ shown_keys key))) e

-- the same of the keys asked for
abbrev pub NamesMissing : Source → Option (Bor (List ℕ)) → FileNode → Failure → Type 0
NamesMissing source None whole e = ⊥
NamesMissing source (Some at) whole e = SaysMissing source at.now (steps_in at.now) whole e

-- the failure names a line
abbrev pub NamesLine : Source → Failure → Type 0
NamesLine source e = IsInput e → (line : ℕ) × (wrong : List ℕ) × SaysAt source line wrong e

-- of a value, it says that nothing is at the keys asked for, and which is the first that leads to
-- nothing, or names what a strict call refuses
abbrev pub NamesWrongIn : DocFormat → Source → Document → FileNode → Failure → Type 0
NamesWrongIn format source document whole e = IsInput e →
    (((part : FileNode) → IsPartAsked document.at whole part → ⊥) × NamesMissing source document.at whole e)
    ⊎ ((part : FileNode) × IsPartAsked document.at whole part × NamesRefused format source document.at part e)

-- of a source, it names the line at which the text is no document, or what is wrong in its value
abbrev pub NamesWrong : DocFormat → Source → Document → Failure → Type 0
NamesWrong format source document e = IsInput e →
    (((whole : FileNode) → IsDocumentOf format source whole → ⊥) × NamesLine source e)
    ⊎ ((whole : FileNode) × IsDocumentOf format source whole × NamesWrongIn format source document whole e)
