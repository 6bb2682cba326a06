use Rattle.std.proofs.Common.{ℕ, ◌≡◌, ◌∙◌, rules}
use Rattle.std.proofs.lemmas.List.{map-id}
use Rattle.ptree.specs.Graph.{edges_of, neighbors_of, node_own, node_shape}
use Rattle.ptree.proofs.Graphs.Matched.{matched_map, matched_all}
use Rattle.ptree.proofs.Trees.Shapes.{kids_of_unfold}
use Rattle.ptree.proofs.graph.drawing.GraphNodeTreeItem.children.Goals as goal

pub returns-clause-shapes : goal.returns-clause-shapes
returns-clause-shapes g c =
    let graph = c.args.self.now.graph.now in
    matched_map _ (λ x. node_shape g.N.Label.text x.graph.now x.node.0) (node_shape g.N.Label.text graph) (λ u x r. search rules) (neighbors_of (edges_of graph) c.args.self.now.node.0) c.in_ok-nodes.nodes.items c.in_ok-nodes.ensures.made
    ∙ kids_of_unfold (node_own g.N.Label.text graph) (neighbors_of (edges_of graph)) c.args.self.now.node.0

pub returns-clause-nodes : goal.returns-clause-nodes
returns-clause-nodes g c =
    matched_map _ (λ x. x.node.0) (λ (u : ℕ). u) (λ u x r. search rules) (neighbors_of (edges_of c.args.self.now.graph.now) c.args.self.now.node.0) c.in_ok-nodes.nodes.items c.in_ok-nodes.ensures.made ∙ map-id _

pub returns-clause-graph : goal.returns-clause-graph
returns-clause-graph g c = matched_all _ (λ x. x.graph.now ≡ c.args.self.now.graph.now) (λ u x r. search rules) (neighbors_of (edges_of c.args.self.now.graph.now) c.args.self.now.node.0) c.in_ok-nodes.nodes.items c.in_ok-nodes.ensures.made
