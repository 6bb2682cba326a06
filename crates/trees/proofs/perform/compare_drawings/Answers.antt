use Rattle.trees.proofs.Shown.{comparison_shown}
use Rattle.trees.proofs.perform.compare_drawings.Goals as goal

pub returns-clause-shown : goal.returns-clause-shown
returns-clause-shown g c = comparison_shown c.args.found.now.sources c.args.left.now c.args.right.now c.args.diff (g.W.Sink.contents c.args.out.now) (g.W.Sink.contents c.show_first.new.out) c.show_first.result c.show_first.ensures.written

pub returns-then-diff-clause-shown : goal.returns-then-diff-clause-shown
returns-then-diff-clause-shown g c = comparison_shown c.args.found.now.sources c.args.left.now c.args.right.now c.args.diff (g.W.Sink.contents c.args.out.now) (g.W.Sink.contents c.show_all.new.out) c.show_all.result c.show_all.ensures.written
