use Rattle.trees.proofs.Common.{◌≡◌, true, inl, inr, rules, IfErr, IfOk-weaker, IfErr-weaker}
use Rattle.ptree.specs.Tree.{Tree, tree_of}
use Rattle.trees.specs.Changing.{IsKept}
use Rattle.trees.specs.Listing.{are_wrong, source_lines, IsListed, IsWrongList, FailsToList}
use Rattle.trees.specs.Reading.{FailsToMake}
use Rattle.trees.proofs.Readings.{fails_weaker}
use Rattle.trees.proofs.perform.listed.Goals as goal

-- what is kept is that of the tree of the paths
pub returns-clause-listed : goal.returns-clause-listed
returns-clause-listed c =
    let whole = tree_of c.in_ok-tree.tree in
    IfOk-weaker c.kept_part.result (λ t. IsKept c.args.paths.keep whole (tree_of t)) (λ t. IsListed c.args.source.now c.args.paths (tree_of t))
    (λ t kept. record { whole = whole; listing = c.in_ok-tree.ensures.listing; kept = kept }) (search rules)

pub returns-clause-failed : goal.returns-clause-failed
returns-clause-failed c =
    let whole = tree_of c.in_ok-tree.tree in
    let says : IfErr c.kept_part.result (FailsToMake ⊥ (IsKept c.args.paths.keep whole)) = search rules in
    IfErr-weaker c.kept_part.result (FailsToMake ⊥ (IsKept c.args.paths.keep whole)) (FailsToList c.args.source.now c.args.paths)
    (λ e none. fails_weaker ((u : Tree) → IsKept c.args.paths.keep whole u → ⊥) (IsWrongList c.args.source.now c.args.paths) ⊥ e (λ no. inr (whole, c.in_ok-tree.ensures.listing, no)) none)
    says

pub returns-in_err-tree-clause-failed : goal.returns-in_err-tree-clause-failed
returns-in_err-tree-clause-failed c =
    let paths = c.args.paths in
    let source = c.args.source.now in
    search (rules, fails_weaker (are_wrong paths.ends_in_zero paths.label (source_lines source paths) ≡ true) (IsWrongList source paths) ⊥ c.in_err-tree.field-0.0 (λ wrong. inl wrong) c.in_err-tree.ensures.failed)
