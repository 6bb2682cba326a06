-- Items given one by one, each with whether it is its parent's last child.
use Rattle.std.specs.Prelude.{◌≡◌, ◌≤◌, ◌-◌, ℕ, Bool, not, nat_eq, if◌then◌else◌, List, [], ◌∷◌, ◌++◌, length, map, take, drop}
use Rattle.ptree.specs.Drawing.{Look, IsDrawing}
use Rattle.ptree.specs.Flags.{has_later}
use Rattle.ptree.specs.GivenItems.{last_of, entry_below}
use Rattle.ptree.specs.ItemWriter.{path_of}
use Rattle.ptree.specs.Outline.{Line, outline}
use Rattle.ptree.specs.Style.{painted_text}
use Rattle.ptree.specs.Tree.{Tree, height, shape_of_tree}
use Rattle.ptree.specs.declared.output.writer.ItemWriter.{ItemWriter}
use Rattle.ptree_c.specs.Fields.{is_set, part_text}
use Rattle.ptree_c.specs.declared.steps.Step.{Step}

-- for levels 1 to n, whether the item of a path at that level is a last child
abbrev pub path_flags : List ℕ → ℕ → List Bool
path_flags path n = map is_set (take n path)

-- the own bytes of an item: its text, painted
abbrev pub step_own : Look → List ℕ → Step → List ℕ
step_own look texts s = painted_text look.leaf (part_text texts s.text)

-- the entry of an item below those of a path
abbrev pub step_entry : Look → List ℕ → List ℕ → Step → List ℕ
step_entry look texts path s =
    entry_below look (path_flags path (s.level - 1)) (last_of s.level (is_set s.is_last))
    (step_own look texts s)

-- the last item of a writer is on a path
abbrev pub IsOnPath : List ℕ → ItemWriter → Type 0
IsOnPath path writer =
    let level = length (path_of writer) in
    (level ≤ length path) × (path_of writer ≡ path_flags path level)

-- a path with the flag of a level; a root has none
abbrev pub path_with : List ℕ → ℕ → ℕ → List ℕ
path_with path level last = if nat_eq level 0 then path else take (level - 1) path ++ last ∷ drop level path

-- the path after items
abbrev pub path_after : List ℕ → List Step → List ℕ
path_after path [] = path
path_after path (s ∷ steps) = path_after (path_with path s.level s.is_last) steps

-- the entries of items, joined, where the first one is below a path
abbrev pub steps_text : Look → List ℕ → List ℕ → List Step → List ℕ
steps_text look texts path [] = []
steps_text look texts path (s ∷ steps) = step_entry look texts path s ++ steps_text look texts (path_with path s.level s.is_last) steps

-- an item with the level and the text of a line, which is a last child if none of the lines after it has its level before one above it
pub record IsStepOf (texts : List ℕ) (l : Line) (later : List Line) (s : Step) : Type 0 where
  pub level : s.level ≡ l.level
  pub text : part_text texts s.text ≡ l.text
  pub last : is_set s.is_last ≡ not (has_later later l.level)

-- the items are those of lines
abbrev pub AreStepsOf : List ℕ → List Line → List Step → Type 0
AreStepsOf texts [] [] = Unit {0}
AreStepsOf texts [] (s ∷ steps) = ⊥
AreStepsOf texts (l ∷ o) [] = ⊥
AreStepsOf texts (l ∷ o) (s ∷ steps) = IsStepOf texts l o s × AreStepsOf texts o steps

-- the entries of a tree's items are its drawing, whatever the path holds at first
abbrev pub DrawsTrees : Look → List ℕ → Type 0
DrawsTrees look texts =
    (t : Tree) (path : List ℕ) (steps : List Step) (depth : ℕ) → height t.children ≤ length path → height t.children ≤ depth → AreStepsOf texts (outline t) steps
    → IsDrawing look (shape_of_tree t) depth (steps_text look texts path steps)

-- items may be given in parts, with the path that the first part leaves
abbrev pub DrawsParts : Look → List ℕ → Type 0
DrawsParts look texts =
    (path : List ℕ) (a b : List Step) → steps_text look texts path (a ++ b) ≡ steps_text look texts path a ++ steps_text look texts (path_after path a) b

-- the item after so many of these is there, and this is the length of its entry below a path
abbrev pub IsNextLength : Look → (texts path : List ℕ) → List Step → (items n : ℕ) → Type 0
IsNextLength look texts path steps items n =
    (s : Step) × (after : List Step) × (drop items steps ≡ s ∷ after) × (n ≡ length (step_entry look texts path s))
