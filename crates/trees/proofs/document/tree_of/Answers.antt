use Rattle.trees.proofs.Common.{rules, subst, ⊤, FileNode}
use Rattle.ptree.specs.Tree.{Tree}
use Rattle.trees.specs.Documents.{IsAllowed, IsTreeIn}
use Rattle.trees.proofs.Parts.{one_asked, wrong_at}
use Rattle.trees.proofs.Readings.{fails_more}
use Rattle.trees.proofs.document.tree_of.Goals as goal

-- what is refused is the part of each tree that is asked for
pub returns-in_err-refuse-clause-failed : goal.returns-in_err-refuse-clause-failed
returns-in_err-refuse-clause-failed g c =
    let document = c.args.document in
    let whole : FileNode = g.V.Value.node c.args.value in
    let part : FileNode = g.V.Value.node c.in_ok-part.part in
    let allowed : (t : Tree) → IsTreeIn c.args.source.now document whole t → (_ : ⊤) × IsAllowed document.is_strict part =
    (λ t is. (tt, subst (λ (n : FileNode). IsAllowed document.is_strict n) (one_asked document.at whole is.part part is.found c.in_ok-part.ensures.part) is.allowed)) in
    search (rules, fails_more ⊥ (λ (_ : ⊤). IsAllowed document.is_strict part) (IsTreeIn c.args.source.now document whole) _ allowed c.in_err-refuse.ensures.failed)

-- of keys that lead to nothing, the first such is said
pub returns-in_err-part-clause-place : goal.returns-in_err-part-clause-place
returns-in_err-part-clause-place g c =
    let document = c.args.document in
    let whole : FileNode = g.V.Value.node c.args.value in
    search (rules, wrong_at g.V.Value.format c.args.source.now document whole _ c.in_err-part.ensures.failed c.in_err-part.ensures.missing)
