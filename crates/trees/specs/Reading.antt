-- Which texts are drawings, and how a reading fails.
use Rattle.std.specs.Prelude.{◌≡◌, ◌⊎◌, ℕ, false, ◌==◌, if◌then◌else◌, List, ◌++◌, length, None, Option, MatchOption, codes, decimal, String, string_bytes, ⊤}
use Rattle.std.specs.declared.alloc.Global.{Global}
use Rattle.std.specs.List.{concat, AllZip}
use Rattle.ptree.specs.declared.print_config.OutputKind.TheVariants.{Unknown}
use Rattle.ptree.specs.Config.{ConfigValue}
use Rattle.ptree.specs.Continuation.{IsFirstWrongLine, EndsWrong}
use Rattle.ptree.specs.Drawing.{look_by, IsDrawing}
use Rattle.ptree.specs.DrawnForm.{IsDrawnForm}
use Rattle.ptree.specs.Outline.{outline}
use Rattle.ptree.specs.Tree.{Tree, shape_of_tree}
use Rattle.ptree_trees.specs.declared.difference.ItemDifference.{ItemDifference}
use Rattle.ptree_trees.specs.Difference.{IsItemDifference}
use Rattle.trees.specs.declared.failure.Failure.{Failure}
use Rattle.trees.specs.declared.failure.Failure.TheVariants.{Usage, Input, Said, Output, Memory}
use Rattle.trees.specs.declared.source.Source.{Source}
use Rattle.trees.specs.Expected.{TellsLine, TellsEnd}
use Rattle.trees.specs.Named.{IsReadableValue}

-- the source could be read, and its text is the drawing of t, whose levels are within the depth
pub record HoldsDrawing (config : ConfigValue) (source : Source) (t : Tree) : Type 0 where
  pub read : source.fault ≡ None
  pub form : IsDrawnForm (look_by config Unknown false) config.depth (string_bytes source.text) t

-- the source holds the drawing of a tree of so many items
abbrev pub HoldsCount : ConfigValue → Source → ℕ → Type 0
HoldsCount config source n = (t : Tree) × (length (outline t) ≡ n) × HoldsDrawing config source t

-- the sources hold the drawings of equal trees, or of trees with this first difference
abbrev pub HoldDifference : ConfigValue → Source → Source → Option ItemDifference → Type 0
HoldDifference config left right found =
    (t : Tree) × (u : Tree) × HoldsDrawing config left t × HoldsDrawing config right u × MatchOption found (t ≡ u) (IsItemDifference t u)

-- the source holds the drawing of no other tree than t
abbrev pub HoldsNoOther : ConfigValue → Source → Tree → Type 0
HoldsNoOther config source t = (u : Tree) → HoldsDrawing config source u → t ≡ u

-- each drawing of t is the source's text
abbrev pub IsRedrawn : ConfigValue → Source → Tree → Type 0
IsRedrawn config source t = (drawing : List ℕ) → IsDrawing (look_by config Unknown false) (shape_of_tree t) config.depth drawing → drawing ≡ string_bytes source.text

-- the source holds a drawing
abbrev pub HoldsSome : ConfigValue → Source → Type 0
HoldsSome config source = (t : Tree) × HoldsDrawing config source t

-- the failure says that something is wrong with an input
abbrev pub IsInput : Failure → Type 0
IsInput (Input wrong) = ⊤
IsInput (Usage wrong) = ⊥
IsInput Said = ⊥
IsInput (Output kind) = ⊥
IsInput Memory = ⊥

-- the failure says that the words are wrong, or that memory ran out
abbrev pub IsUsage : Failure → Type 0
IsUsage (Usage wrong) = ⊤
IsUsage (Input wrong) = ⊥
IsUsage Said = ⊥
IsUsage (Output kind) = ⊥
IsUsage Memory = ⊤

-- the failure says that the output failed, or that memory ran out
abbrev pub IsWriting : Failure → Type 0
IsWriting (Output kind) = ⊤
IsWriting Memory = ⊤
IsWriting (Usage wrong) = ⊥
IsWriting (Input wrong) = ⊥
IsWriting Said = ⊥

-- what each failure of a call that makes something says: Wrong of the input, P if the words are
-- wrong, or memory ran out
abbrev pub FailsFor : Type 0 → Type 0 → Failure → Type 0
FailsFor Wrong P (Input wrong) = Wrong
FailsFor Wrong P (Usage wrong) = P
FailsFor Wrong P Said = ⊥
FailsFor Wrong P (Output kind) = ⊥
FailsFor Wrong P Memory = ⊤

-- the failure says why an input could not be read, or that memory ran out
abbrev pub IsUnread : Failure → Type 0
IsUnread = FailsFor ⊤ ⊥

-- the same where Is holds of what is made: there is none, or P, or memory ran out
abbrev pub FailsToMake : {X : Type 0} → Type 0 → (X → Type 0) → Failure → Type 0
FailsToMake {X} P Is = FailsFor ((x : X) → Is x → ⊥) P

-- what each failure of a reading says: the source holds the drawing of no tree, or the pieces are
-- not readable, or memory ran out
abbrev pub FailsToRead : ConfigValue → Source → Failure → Type 0
FailsToRead config source = FailsToMake (IsReadableValue config → ⊥) (HoldsDrawing config source)

-- ## Messages

-- the failure is an error of an input with this text
abbrev pub IsInputOf : List ℕ → Failure → Type 0
IsInputOf text (Input wrong) = string_bytes wrong ≡ text
IsInputOf text (Usage wrong) = ⊥
IsInputOf text Said = ⊥
IsInputOf text (Output kind) = ⊥
IsInputOf text Memory = ⊥

-- it says what is wrong with the source
abbrev pub Says : Source → List ℕ → Failure → Type 0
Says source wrong = IsInputOf (string_bytes source.name ++ codes ": " ++ wrong)

-- it says what is wrong at a line of it
abbrev pub SaysAt : Source → ℕ → List ℕ → Failure → Type 0
SaysAt source line wrong = IsInputOf (string_bytes source.name ++ codes ":" ++ decimal line ++ codes ": " ++ wrong)

-- of a source that could not be read, it says why; of a text that is no drawing, it names the first line that
-- cannot continue one, and says what could; or it names none, and says why the text ends too early
abbrev pub NamesPlace : ConfigValue → Source → Failure → Type 0
NamesPlace config source e =
    let look = look_by config Unknown false in
    let text = string_bytes source.text in
    IsInput e → MatchOption source.fault
    ((wrong : List ℕ) × (((line : ℕ) × IsFirstWrongLine look config.depth text line × TellsLine config text line wrong × SaysAt source line wrong e) ⊎ (EndsWrong look config.depth text × TellsEnd config text wrong × Says source wrong e)))
    (λ fault. IsInputOf (string_bytes fault) e)

-- ## Reports

-- a word for so many items
abbrev pub item_word : ℕ → List ℕ
item_word n = if n == 1 then codes "item" else codes "items"

-- the line about the drawing of so many
abbrev pub count_line : Source → ℕ → List ℕ
count_line source n = string_bytes source.name ++ (codes ": a drawing of " ++ (decimal n ++ (codes " " ++ (item_word n ++ codes "\n"))))

-- what `check` says of a source: of a drawing how many items it has, and else what is wrong, and where
abbrev pub IsReport : ConfigValue → Source → List ℕ → Type 0
IsReport config source said =
    ((t : Tree) × HoldsDrawing config source t × (said ≡ count_line source (length (outline t))))
    ⊎ ((wrong : String Global) × (HoldsSome config source → ⊥) × NamesPlace config source (Input wrong) × (said ≡ string_bytes wrong ++ codes "\n"))

-- a text grows by one text of each of these, in their order
abbrev pub Adds : {X : Type 0} → (X → List ℕ → Type 0) → List X → List ℕ → List ℕ → Type 0
Adds R xs old new = (more : List (List ℕ)) × (new ≡ old ++ concat more) × AllZip R xs more
