use Rattle.trees.proofs.Common.{rules, tree_of}
use Rattle.trees.specs.Changing.{IsConverted, FailsToConvert}
use Rattle.trees.proofs.Conversions.{converts_back}
use Rattle.trees.proofs.Readings.{fails_by_memory}
use Rattle.trees.proofs.Shown.{drawing_shown, drawing_nothing}
use Rattle.trees.proofs.Writings.{drawing_made}
use Rattle.trees.proofs.perform.draw_converted.Goals as goal

-- the tree that is drawn is the one that was converted
pub returns-clause-written : goal.returns-clause-written
returns-clause-written g c =
    let sources = c.args.found.now.sources in
    let convert = c.args.convert in
    drawing_made sources convert.drawing (IsConverted sources c.args.source.now convert) (FailsToConvert sources c.args.source.now convert) (g.W.Sink.contents c.args.out.now) (g.W.Sink.contents c.draw.new.out) c.draw.result (tree_of c.in_ok-tree.tree)
    (search rules) (λ e is. fails_by_memory _ _ e is) (search rules)

pub returns-clause-back : goal.returns-clause-back
returns-clause-back g c =
    converts_back c.args.found.now.sources c.args.source.now c.args.convert (g.W.Sink.contents c.args.out.now) (g.W.Sink.contents c.draw.new.out) c.draw.result (returns-clause-written g c)

pub returns-clause-shown : goal.returns-clause-shown
returns-clause-shown g c =
    let sources = c.args.found.now.sources in
    let source = c.args.source.now in
    let convert = c.args.convert in
    drawing_shown sources convert.drawing (IsConverted sources source convert) (FailsToConvert sources source convert) (g.W.Sink.contents c.args.out.now) (g.W.Sink.contents c.draw.new.out) c.draw.result (returns-clause-written g c)

pub returns-in_err-tree-clause-shown : goal.returns-in_err-tree-clause-shown
returns-in_err-tree-clause-shown g c = drawing_nothing c.args.found.now.sources c.args.convert.drawing (g.W.Sink.contents c.args.out.now)
