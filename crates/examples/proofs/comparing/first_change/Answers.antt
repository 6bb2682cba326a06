use Rattle.std.proofs.Common.{subst}
use Rattle.ptree.specs.Drawing.{written_look}
use Rattle.ptree.proofs.Reading.SpelledForms.{same_drawn_form}
use Rattle.ptree_trees.specs.Difference.{DifferAt, IsItemDifference}
use Rattle.examples.proofs.comparing.first_change.Goals as goal

pub returns : goal.returns
returns c = λ t u p q.
    let look = written_look c.args.config.now in
    let depth = c.args.config.now.depth in
    let (v, w, left, right, either) = c.in_ok-found.ensures.differ in
    let found : IsItemDifference v w c.in-Some.found = rw c.in-Some.is at either in
    subst (λ a. DifferAt a u c.in-Some.found.address.items) (same_drawn_form look depth c.requires c.args.left.now v t left p)
    (subst (λ b. DifferAt v b c.in-Some.found.address.items) (same_drawn_form look depth c.requires c.args.right.now w u right q) found.differ)
