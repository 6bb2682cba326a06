use Rattle.trees.proofs.Common.{◌≡◌, [], rules, IsErr, IfErr, Appends, config_of, tree_of}
use Rattle.trees.specs.declared.failure.Failure.TheVariants.{Memory}
use Rattle.trees.specs.Merging.{IsMergeDrawing, ShowsBoth, styled_tree_of}
use Rattle.trees.specs.Reading.{IsWriting}
use Rattle.trees.proofs.MergeDrawings.{merge_drawing, refuses_part}
use Rattle.trees.proofs.Writings.{fails_early}
use Rattle.trees.proofs.perform.drawn.write_both.Goals as goal

pub returns-in_err-both-clause-written : goal.returns-in_err-both-clause-written
returns-in_err-both-clause-written g c =
    let old = g.W.Sink.contents c.args.out.now in
    fails_early (Appends old old []) old c.from_residual.result (IsMergeDrawing (config_of c.args.config.now) c.args.is_terminal (tree_of c.args.left.now) (tree_of c.args.right.now)) (λ e. e ≡ Memory)
    (λ e. (cc)) (search rules) (search rules)

pub returns-in_err-written-clause-written : goal.returns-in_err-written-clause-written
returns-in_err-written-clause-written g c =
    let config = config_of c.args.config.now in
    let is_terminal = c.args.is_terminal in
    let left = tree_of c.args.left.now in
    let right = tree_of c.args.right.now in
    let r = c.from_residual-in_err-written.result in
    let err : IsErr r = search rules in
    let writing : IfErr r IsWriting = search rules in
    let drawn = c.in_err-written.ensures.bytes in
    let shows : ShowsBoth (record { is_colored = c.eq.result; is_escaped = is_terminal }) left right (styled_tree_of c.in_ok-both.both) = search rules in
    let is = merge_drawing config is_terminal c.eq.result left right c.in_ok-both.both drawn.0 (search rules) shows drawn.1 in
    refuses_part (g.W.Sink.contents c.args.out.now) (g.W.Sink.contents c.write_tree_with-written.new.f) r (IsMergeDrawing config is_terminal left right) (λ e. e ≡ Memory) drawn.0 err writing is drawn.2

pub returns-clause-written : goal.returns-clause-written
returns-clause-written g c =
    let config = config_of c.args.config.now in
    let left = tree_of c.args.left.now in
    let right = tree_of c.args.right.now in
    let drawn = c.in_ok-written.ensures.bytes in
    let shows : ShowsBoth (record { is_colored = c.eq.result; is_escaped = c.args.is_terminal }) left right (styled_tree_of c.in_ok-both.both) = search rules in
    (drawn.0, merge_drawing config c.args.is_terminal c.eq.result left right c.in_ok-both.both drawn.0 (search rules) shows drawn.1, drawn.2)
