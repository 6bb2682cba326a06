use Rattle.std.proofs.Common.{◌≡◌, ◌≤◌, suc, ◌+◌, ◌∙◌, map, take, ap, arith, length, refl, sym, subst}
use Rattle.std.proofs.lemmas.Grind.{elements}
use Rattle.std.specs.Prelude.{All}
use Rattle.std.proofs.lemmas.List.{length-map}
use Rattle.ptree.specs.declared.graph.Node.{Node}
use Rattle.ptree.specs.Graph.{weights_of, edges_of}
use Rattle.ptree.specs.GraphLinks.{EndsBelow, IsLinked, ends_of, turned_at, turned_first}
use Rattle.ptree.proofs.Graphs.Turned.{first_more, turned_back, turned_start, turned_whole, written_back}
use Rattle.ptree.proofs.graph.Graph.reversed.Goals as goal

pub loop-i-init : goal.loop-i-init
loop-i-init g c =
    let self = c.args.self in
    let nodes = c.unlink.new.nodes in
    let count : length self.nodes.items ≡ length nodes = sym (c.unlink.auto.nodes ∙ ap length c.deref_mut.ensures.value) in
    turned_start _ (edges_of self) (weights_of self) nodes _ self.edges.items (written_back self.nodes.len nodes _ (omega (arith, count, self.nodes.ok.0)))
    (subst (λ k. All (EndsBelow k) self.edges.items) count self.linked.ends) c.unlink.ensures.newest refl
    (c.unlink.ensures.weights ∙ ap (map (λ (n : Node g.row.N.Denot). n.weight)) c.deref_mut.ensures.value) (omega arith)

pub loop-i-preserved : goal.loop-i-preserved
loop-i-preserved g c =
    let self = c.args.self in
    let i = c.loop-i.i in
    let nodes = c.turn_edge.new.nodes in
    let edges = c.turn_edge.new.edges in
    let more : i + 1 ≡ suc i = omega arith in
    let kept_nodes : length nodes ≡ length c.loop-i.nodes.items = c.turn_edge.auto.nodes ∙ ap length c.deref_mut-in-loop-i.ensures.value in
    let kept_edges : length edges ≡ length c.loop-i.edges.items = c.turn_edge.auto.edges ∙ ap length c.deref_mut-in-loop-i-2.ensures.value in
    turned_back (i + 1) (edges_of self) (weights_of self) nodes _ edges _
    (written_back c.loop-i.nodes.len nodes _ (omega (arith, kept_nodes, c.loop-i.nodes.ok.0)))
    (written_back c.loop-i.edges.len edges _ (omega (arith, kept_edges, c.loop-i.edges.ok.0)))
    record {
      ends = c.turn_edge.ensures.ends;
      linked = subst (λ k. IsLinked nodes (take k edges)) (sym more) c.turn_edge.ensures.linked;
      turns =
          c.turn_edge.ensures.edges ∙ ap (λ es. turned_at i (map ends_of es)) c.deref_mut-in-loop-i-2.ensures.value ∙ ap (turned_at i) c.loop-i.invariant.turns
          ∙ first_more i (edges_of self) ∙ ap (λ k. turned_first k (edges_of self)) (sym more);
      same = c.turn_edge.ensures.weights ∙ ap (map (λ (n : Node g.row.N.Denot). n.weight)) c.deref_mut-in-loop-i.ensures.value ∙ c.loop-i.invariant.same;
    }

pub returns-clause-edges : goal.returns-clause-edges
returns-clause-edges g c =
    let within : length (edges_of c.args.self) ≤ c.loop-i.i = omega (arith, c.loop-i-test.false, c.len-i-end.ensures, c.args.self.edges.ok.0, length-map c.args.self.edges.items ends_of) in
    turned_whole c.loop-i.i (edges_of c.args.self) (weights_of c.args.self) c.loop-i.nodes.items c.loop-i.edges.items within c.loop-i.invariant

pub returns-clause-weights : goal.returns-clause-weights
returns-clause-weights g c = c.loop-i.invariant.same

pub turn_edge-requires-clause-within : goal.turn_edge-requires-clause-within
turn_edge-requires-clause-within g c = grind (arith, elements)

pub turn_edge-requires-clause-ends : goal.turn_edge-requires-clause-ends
turn_edge-requires-clause-ends g c = grind (arith, elements)

pub turn_edge-requires-clause-linked : goal.turn_edge-requires-clause-linked
turn_edge-requires-clause-linked g c = grind (arith, elements)

pub invariant_of-result : goal.invariant_of-result
invariant_of-result g c = grind (arith, elements)
