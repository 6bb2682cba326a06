use Rattle.trees.proofs.Common.{subst, IfErr-weaker, FileNode}
use Rattle.ptree.specs.Tree.{Tree}
use Rattle.trees.specs.Documents.{IsTreeIn, IsPartTree}
use Rattle.trees.proofs.Parts.{one_document}
use Rattle.trees.proofs.Readings.{fails_more}
use Rattle.trees.proofs.document.tree.Goals as goal

-- a text is one document at most
pub returns-clause-failed : goal.returns-clause-failed
returns-clause-failed g c =
    let format = g.V.Value.format in
    let source = c.args.source.now in
    let document = c.args.document in
    let whole : FileNode = g.V.Value.node c.in_ok-value.value in
    let drawn : (t : Tree) → IsPartTree format source document t → (u : Tree) × IsTreeIn source document whole u =
    (λ t is. (t, subst (λ (n : FileNode). IsTreeIn source document n t) (one_document format source is.whole whole is.read c.in_ok-value.ensures.value) is.drawn)) in
    IfErr-weaker c.tree_of.result _ _ (λ e none. fails_more ⊥ (IsTreeIn source document whole) (IsPartTree format source document) e drawn none) c.tree_of.ensures.failed
