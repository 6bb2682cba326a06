use Rattle.std.proofs.Common.{ℕ, ◌∙◌, rules}
use Rattle.std.proofs.lemmas.List.{map-id}
use Rattle.std.proofs.lemmas.Result.{IfOk-weaker}
use Rattle.ptree.specs.declared.graph.NodeIndex.{NodeIndex}
use Rattle.ptree.specs.Graph.{edges_of, neighbors_of}
use Rattle.ptree.proofs.Graphs.Links.{neighbors_below}
use Rattle.ptree.proofs.Graphs.Matched.{matched_map}
use Rattle.ptree.proofs.graph.Graph.neighbors.Goals as goal

pub returns-clause-targets : goal.returns-clause-targets
returns-clause-targets g c =
    IfOk-weaker c.targets.result _ _ (λ v h. matched_map _ (λ (b : NodeIndex). b.0) (λ (u : ℕ). u) (λ u b r. search rules) (neighbors_of (edges_of c.args.self.now) c.args.a.0) v.items h ∙ map-id _) c.targets.ensures.made

pub returns-clause-nodes : goal.returns-clause-nodes
returns-clause-nodes g c = neighbors_below c.args.self.now c.args.a.0
