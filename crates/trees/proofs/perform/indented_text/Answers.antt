use Rattle.trees.proofs.Common.{IfOk, string_bytes, rules, IfErr-weaker, tree_of}
use Rattle.trees.specs.Asked.{reading_value}
use Rattle.trees.specs.Outlining.{LosesText}
use Rattle.trees.specs.Reading.{HoldsDrawing, HoldsNoOther, FailsFor}
use Rattle.trees.specs.Writing.{IsIndented, FailsToIndent}
use Rattle.trees.proofs.OutlinesBack.{indentation_made, fails_to_indent, fails_to_read}
use Rattle.trees.proofs.perform.indented_text.Goals as goal

-- the tree is the one that was read
pub returns-clause-text : goal.returns-clause-text
returns-clause-text c =
    let indented = c.args.indented in
    let t = tree_of c.in_ok-tree.tree in
    let holds : HoldsDrawing (reading_value c.args.found.now.sources indented.pieces) c.args.source.now t = search rules in
    let is : IfOk c.indented.result (λ text. IsIndented indented t (string_bytes text)) = search rules in
    indentation_made c.args.found.now.sources c.args.source.now indented t c.indented.result (λ text. string_bytes text) holds is c.indented.ensures.back

pub returns-clause-failed : goal.returns-clause-failed
returns-clause-failed c =
    let sources = c.args.found.now.sources in
    let source = c.args.source.now in
    let indented = c.args.indented in
    let t = tree_of c.in_ok-tree.tree in
    let only : HoldsNoOther (reading_value sources indented.pieces) source t = search rules in
    IfErr-weaker c.indented.result (FailsFor (LosesText indented t) ⊥) (FailsToIndent sources source indented) (λ e says. fails_to_indent sources source indented t e only says) c.indented.ensures.failed

pub returns-in_err-tree-clause-failed : goal.returns-in_err-tree-clause-failed
returns-in_err-tree-clause-failed c =
    search (rules, fails_to_read c.args.found.now.sources c.args.source.now c.args.indented c.in_err-tree.field-0.0 c.in_err-tree.ensures.failed)
