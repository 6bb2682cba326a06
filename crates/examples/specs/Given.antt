-- Items that are given one by one.
use Rattle.std.specs.Prelude.{[]}
use Rattle.ptree.specs.Drawing.{Look}
use Rattle.ptree.specs.GivenItems.{GivenItem}
use Rattle.ptree.specs.Shape.{Shape}
use Rattle.examples.specs.declared.giving.Given.{Given}

-- what an item is drawn by, where the items have these shapes
abbrev pub given : {T : Type 0} → (T → Shape) → Look → Given T → GivenItem
given shape look g =
    record { level = g.level; last = g.is_last; own = (shape g.item.now).own [] look.leaf }
