use Rattle.std.specs.Prelude.{⊤}
use Rattle.ptree.specs.Tree.{Tree, tree_of}
use Rattle.trees.specs.Outlining.{IsFormWithin}
use Rattle.trees.proofs.Outlines.{within_lines, deep_line}
use Rattle.trees.proofs.Readings.{fails_weaker}
use Rattle.trees.proofs.lists.outlines.read_within.Goals as goal

pub returns-in-Some-clause-failed : goal.returns-in-Some-clause-failed
returns-in-Some-clause-failed c =
    let form = c.args.form.now in
    let text = c.args.text.now in
    fails_weaker ⊤ ((t : Tree) → IsFormWithin form text t → ⊥) ⊥ c.in_ok-wrong_to.field-0
    (λ _ t is. deep_line 5000 form c.requires.0 text t is.read c.in-Some.ensures is.within) c.in_ok-wrong_to.ensures

pub returns-in-Ok-clause-some : goal.returns-in-Ok-clause-some
returns-in-Ok-clause-some c =
    let is = c.in-Ok.ensures.some in
    record { read = is; within = within_lines 5000 c.args.form.now c.requires.0 c.args.text.now (tree_of c.in-Ok.tree) is c.in_default.ensures }
