-- Drawings of merges, which are refusals.
use Rattle.trees.proofs.Common.{◌≡◌, ℕ, Bool, false, inr, Option, List, Result, Ok, Err, subst, IsErr, IfErr, true≢false, sym, look_by, IsDrawing, styled_shape}
use Rattle.ptree.specs.declared.print_config.OutputKind.TheVariants.{Unknown}
use Rattle.ptree.specs.Config.{ConfigValue, is_styled}
use Rattle.ptree.specs.Shape.{Shape}
use Rattle.ptree.specs.Tree.{Tree}
use Rattle.ptree.specs.Writing.{AppendsPart}
use Rattle.ptree_trees.specs.declared.styled.StyledItem.{StyledItem}
use Rattle.trees.specs.declared.failure.Failure.{Failure}
use Rattle.trees.specs.declared.failure.Failure.TheVariants.{Output, Memory}
use Rattle.trees.specs.Merging.{styled_tree_of, ShowsBoth, IsMergeDrawing}
use Rattle.trees.specs.Reading.{IsWriting}
use Rattle.trees.specs.Writing.{WritesRefusal}
use Rattle.trees.proofs.StyledTrees.{shape_of_item}

-- the drawing of an item that shows two trees is that of their merge
pub merge_drawing : (config : ConfigValue) (is_terminal is_colored : Bool) (t u : Tree) (s : StyledItem) (bytes : List ℕ) → is_colored ≡ is_styled config.styled Unknown false
    → ShowsBoth (record { is_colored = is_colored; is_escaped = is_terminal }) t u (styled_tree_of s) → IsDrawing (look_by config Unknown false) (styled_shape s) config.depth bytes → IsMergeDrawing config is_terminal t u bytes
merge_drawing config is_terminal is_colored t u s bytes colored shows drawn = (
  styled_tree_of s,
  subst (λ (b : Bool). ShowsBoth (record { is_colored = b; is_escaped = is_terminal }) t u (styled_tree_of s)) colored shows,
  subst (λ (x : Shape). IsDrawing (look_by config Unknown false) x config.depth bytes) (shape_of_item s) drawn,
)

-- a call that fails in writing has appended a prefix
pub refuses_part : {A : Type 0} (old new : Option (List ℕ)) (r : Result A Failure) (Is : List ℕ → Type 0) (Fails : Failure → Type 0) (bytes : List ℕ) → IsErr r → IfErr r IsWriting → Is bytes → AppendsPart old new bytes
    → WritesRefusal old new r Is Fails
refuses_part old new (Ok x) Is Fails bytes err writing is part = absurd (true≢false (sym err))
refuses_part old new (Err (Output kind)) Is Fails bytes err writing is part = inr (tt, bytes, is, part)
refuses_part old new (Err Memory) Is Fails bytes err writing is part = inr (tt, bytes, is, part)
refuses_part old new _ Is Fails bytes err writing is part = absurd writing
