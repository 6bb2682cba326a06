-- A tree that is made line by line. No public contract cites this.
use Rattle.std.specs.Prelude.{◌≡◌, ◌≤◌, ◌-◌, ◌++◌, ◌∷◌, [], ℕ, suc, List, length, map, take, drop, string_bytes}
use Rattle.ptree.specs.declared.builder.TextLine.{TextLine}
use Rattle.ptree.specs.declared.builder.partial.Parent.{Parent}
use Rattle.ptree.specs.declared.builder.partial.PartialTree.{PartialTree}
use Rattle.ptree.specs.declared.item.StringItem.{StringItem}
use Rattle.ptree.specs.Outline.{Line, line, outline_at}
use Rattle.ptree.specs.Tree.{forest, tree_of}

-- a line that a builder holds
abbrev pub text_line : TextLine → Line
text_line l = line l.level (string_bytes l.text)

-- the lines of items side by side, whose level is n, and of all below them
abbrev pub row_lines : ℕ → List StringItem → List Line
row_lines n items = outline_at n (forest (map tree_of items))

-- The lines of parents, the first of which has level n, and of the closed items after the first m.
-- Those that precede a parent are beside it or beside one above it, and the others below it.
abbrev pub lines_from : ℕ → ℕ → List Parent → List StringItem → List Line
lines_from n m [] closed = row_lines n closed
lines_from n m (p ∷ parents) closed =
    row_lines n (take (p.first - m) closed) ++ line n (string_bytes p.text) ∷ lines_from (suc n) p.first parents (drop (p.first - m) closed)

-- the lines of all items
abbrev pub partial_lines : PartialTree → List Line
partial_lines t = lines_from 0 0 t.parents.items t.closed.items

-- the places of parents ascend, from m to the number of closed items
abbrev pub Ascend : ℕ → List Parent → ℕ → Type 0
Ascend m [] count = m ≤ count
Ascend m (p ∷ parents) count = (m ≤ p.first) × Ascend p.first parents count

-- nothing is beside the root
abbrev pub HasOneRoot : List Parent → List StringItem → Type 0
HasOneRoot [] closed = closed ≡ []
HasOneRoot (p ∷ parents) closed = p.first ≡ 0

-- the items are those of a tree that is not finished
abbrev pub IsPartial : PartialTree → Type 0
IsPartial t = Ascend 0 t.parents.items (length t.closed.items) × HasOneRoot t.parents.items t.closed.items
