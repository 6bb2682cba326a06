use Rattle.std.proofs.Common.{None, refl, rules, false, []}
use Rattle.ptree.specs.Looks.{look_of}
use Rattle.ptree.specs.Writing.{IsWritten}
use Rattle.ptree.proofs.Graphs.AlongEdges.{own_drawn}
use Rattle.ptree.proofs.graph.row.StartDrawn.draw_own.Goals as goal

pub returns-clause-bytes : goal.returns-clause-bytes
returns-clause-bytes g c = λ depth outer e.
    let start = c.args.self.now in
    own_drawn g.N.Label.text start.marked.graph.now start.marked.mark.now (λ z. IsWritten (g.W.Sink.contents c.args.f.now) (g.W.Sink.contents c.draw_entry.new.f) c.draw_entry.result z) (look_of c.args.brush.now.look) outer None depth [] start.node.0 _ false
    (c.draw_entry.ensures.bytes outer e) (search rules) refl
