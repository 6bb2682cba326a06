-- What a contract sees of a builder.
use Rattle.std.specs.Prelude.{◌≡◌, ℕ, ◌+◌, List, [], ◌∷◌, ◌++◌}
use Rattle.ptree.specs.Outline.{Line, line}

-- an outline, and the level of the current item
pub record Building : Type 0 where
  pub outline : List Line
  pub level : ℕ

-- the outline has one line more: that of a child of the current item, with this text
abbrev pub AddsChild : Building → Building → List ℕ → Type 0
AddsChild old new text = new.outline ≡ old.outline ++ line (old.level + 1) text ∷ []
