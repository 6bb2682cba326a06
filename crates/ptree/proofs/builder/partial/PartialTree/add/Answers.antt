use Rattle.std.proofs.Common.{◌++◌, ◌∷◌, [], ◌≡◌, ◌<◌, length, length-append, map, string_bytes, ap, ◌∙◌, sym, subst, arith}
use Rattle.ptree.specs.Outline.{line}
use Rattle.ptree.specs.PartialTree.{Ascend, HasOneRoot, lines_from}
use Rattle.ptree.specs.Tree.{tree, forest, tree_of}
use Rattle.ptree.proofs.Trees.PartialTrees.{ascend_more, ascend_push, root_stays, root_pushed, root_lines_push, root_lines_open, outline_under}
use Rattle.ptree.proofs.Trees.PartialSteps.{leaf_lines}
use Rattle.ptree.proofs.Trees.ItemTrees.{tree_of_roll}
use Rattle.ptree.proofs.builder.partial.PartialTree.add.Goals as goal

pub returns-then-next-len-clause-partial : goal.returns-then-next-len-clause-partial
returns-then-next-len-clause-partial c =
    let now = c.args.self.now in
    let first : c.len-first.result ≡ length now.closed.items = omega (arith, c.len-first.ensures, now.closed.ok.0) in
    subst (λ z. Ascend 0 z (length now.closed.items) × HasOneRoot z now.closed.items) (sym c.in_ok-push.ensures.items) (
      ascend_push 0 now.parents.items _ (length now.closed.items) (subst (Ascend 0 now.parents.items) (sym first) c.requires.partial.0) (omega (arith, first)),
      root_pushed now.parents.items _ now.closed.items first c.requires.partial.1,
    )

pub returns-then-next-len-clause-lines : goal.returns-then-next-len-clause-lines
returns-then-next-len-clause-lines c =
    let now = c.args.self.now in
    ap (λ z. lines_from 0 0 z now.closed.items) c.in_ok-push.ensures.items ∙ root_lines_open now.parents.items _ now.closed.items c.requires.partial.0 (omega (arith, c.len-first.ensures, now.closed.ok.0))

pub close-requires-clause-partial : goal.close-requires-clause-partial
close-requires-clause-partial c =
    let now = c.args.self.now in
    let some : 0 < length now.parents.items = omega (arith, c.requires.low, c.if-next-len.false, c.len.ensures, now.parents.ok.0) in
    let more = ap length c.in_ok-push-2.ensures.items ∙ length-append now.closed.items _ in (
      ascend_more 0 now.parents.items (length now.closed.items) (length c.push-2.new.self.items) c.requires.partial.0 (omega (arith, more)),
      root_stays now.parents.items now.closed.items c.push-2.new.self.items some c.requires.partial.1,
    )

pub returns-clause-lines : goal.returns-clause-lines
returns-clause-lines c =
    let now = c.args.self.now in
    let level = length now.parents.items in
    let leaf = tree_of_roll _ ∙ ap (λ z. tree (string_bytes c.args.text) (forest (map tree_of z))) c.new-children.ensures.items in
    let pushed : lines_from 0 0 now.parents.items c.push-2.new.self.items ≡ lines_from 0 0 now.parents.items now.closed.items ++ line level (string_bytes c.args.text) ∷ [] =
    ap (lines_from 0 0 now.parents.items) c.in_ok-push-2.ensures.items
    ∙ (root_lines_push now.parents.items now.closed.items _ c.requires.partial.0
    ∙ ap (λ z. lines_from 0 0 now.parents.items now.closed.items ++ z) (ap (outline_under level) leaf ∙ leaf_lines level (string_bytes c.args.text))) in
    rw pushed at c.close.ensures.lines
