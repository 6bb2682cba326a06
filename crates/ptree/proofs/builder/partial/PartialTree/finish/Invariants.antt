use Rattle.std.proofs.Common.{◌++◌, ◌∷◌, [], length, string_bytes}
use Rattle.ptree.specs.Outline.{line}
use Rattle.ptree.specs.PartialTree.{partial_lines}
use Rattle.ptree.proofs.Trees.PartialSteps.{IsFinishing}
use Rattle.ptree.proofs.builder.partial.PartialTree.finish.Given as goal

abbrev pub invariant-loop-parent : goal.invariant-loop-parent
invariant-loop-parent l =
    IsFinishing (partial_lines l.fn.self ++ line (length l.fn.self.parents.items) (string_bytes l.fn.text) ∷ []) l.parents.items l.closed.items l.item

abbrev pub decreases-loop-parent : goal.decreases-loop-parent
decreases-loop-parent l = length l.parents.items
