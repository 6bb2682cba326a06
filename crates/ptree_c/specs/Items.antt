-- Items by levels and the ends of their texts.
use Rattle.std.specs.Prelude.{ℕ, ◌+◌, ◌-◌, List, [], ◌∷◌, length, take, drop, flat_map}
use Rattle.ptree.specs.Outline.{Line, line}
use Rattle.ptree_c.specs.declared.items.Item.{Item}

-- the lines of items, where the first one's text begins at place from
abbrev pub lines_from : ℕ → List ℕ → List Item → List Line
lines_from from texts [] = []
lines_from from texts (i ∷ items) = line i.level (take (i.end - from) (drop from texts)) ∷ lines_from i.end texts items

-- the items of lines, where the first one's text begins at place from
abbrev pub items_from : ℕ → List Line → List Item
items_from from [] = []
items_from from (l ∷ lines) = record { end = from + length l.text; level = l.level } ∷ items_from (from + length l.text) lines

-- the texts of lines, joined
abbrev pub joined_texts : List Line → List ℕ
joined_texts lines = flat_map (λ l. l.text) lines
