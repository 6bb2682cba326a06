-- What is left of trees that are changed.
use Rattle.std.specs.Borrow.{Bor}
use Rattle.std.specs.Prelude.{◌≡◌, ℕ, Bool, true, false, List, Option, Some, None}
use Rattle.ptree.specs.declared.print_config.Sources.{Sources}
use Rattle.ptree.specs.Tree.{Tree}
use Rattle.ptree_trees.specs.Change.{kept_tree}
use Rattle.ptree_trees.specs.Parts.{has_part}
use Rattle.ptree_trees.specs.Sort.{IsSortedTree}
use Rattle.trees.specs.declared.command.Convert.{Convert}
use Rattle.trees.specs.declared.failure.Failure.{Failure}
use Rattle.trees.specs.declared.source.Source.{Source}
use Rattle.trees.specs.Asked.{reading_value}
use Rattle.trees.specs.Named.{IsReadableValue}
use Rattle.trees.specs.Reading.{HoldsDrawing, FailsToMake}

-- u is what contains a text in t, with the items above
abbrev pub IsPart : List ℕ → Tree → Tree → Type 0
IsPart text t u = kept_tree (has_part text) t ≡ Some u

-- u is what is kept of t: all of it, or what contains a text
abbrev pub IsKept : Option (Bor (List ℕ)) → Tree → Tree → Type 0
IsKept None t u = u ≡ t
IsKept (Some text) t u = IsPart text.now t u

-- u is t, with the children of each item sorted if that is asked for
abbrev pub IsSortedIf : Bool → Tree → Tree → Type 0
IsSortedIf false t u = u ≡ t
IsSortedIf true t u = IsSortedTree t u

-- u is what `convert` makes of the tree whose drawing the source holds
pub record IsConverted (sources : Sources) (source : Source) (convert : Convert) (u : Tree) : Type 0 where
  pub whole : Tree
  pub part : Tree
  pub read : HoldsDrawing (reading_value sources convert.pieces) source whole
  pub kept : IsKept convert.keep whole part
  pub sorted : IsSortedIf convert.is_sorted part u

-- what each failure before anything is drawn says: there is no such tree, or the pieces are not
-- readable, or memory ran out
abbrev pub FailsToConvert : Sources → Source → Convert → Failure → Type 0
FailsToConvert sources source convert = FailsToMake (IsReadableValue (reading_value sources convert.pieces) → ⊥) (IsConverted sources source convert)
