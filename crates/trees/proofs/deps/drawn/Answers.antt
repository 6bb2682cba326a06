use Rattle.trees.proofs.Common.{◌≡◌, map, string_bytes, refl, rules, length, Any, weights_of, LacksNode}
use Rattle.trees.specs.declared.deps.Dependencies.{Dependencies}
use Rattle.trees.specs.declared.deps.network.Network.{Network}
use Rattle.trees.specs.Depending.{IsNoName}
use Rattle.trees.specs.DependingParts.{labels_of, names_in, paths_in, paths_of, IsWhole}
use Rattle.trees.specs.Shown.{shown_text}
use Rattle.trees.proofs.Meanings.{graph_drawn, name_missing, network_whole}
use Rattle.trees.proofs.PairGraphs.{graph_held, graph_whole}
use Rattle.trees.proofs.Readings.{fails_weaker}
use Rattle.trees.proofs.deps.drawn.Goals.{After-reverse}
use Rattle.trees.proofs.deps.drawn.Goals as goal

-- the packages' network is whole
are_whole : (c : After-reverse) → IsWhole c.in_ok-network.network
are_whole c = network_whole c.args.deps.is_inverse c.args.packages c.in_ok-network.network c.in_ok-network.ensures c.requires

-- no edge lacks a node
none_lacks : (c : After-reverse) → Any (LacksNode (length (labels_of c.root_of.new.network))) c.reverse.new.self.items → ⊥
none_lacks c lacks =
    let rooted = c.root_of.new.network in
    graph_whole c.args.source.now c.args.deps.root c.in_ok-network.network rooted (record rooted { edges = c.reverse.new.self }) c.in_ok-root.root.0 (are_whole c) (c.in_ok-root.ensures.root (are_whole c)) refl
    c.reverse.ensures.items lacks

pub returns-in_err-root-clause-failed : goal.returns-in_err-root-clause-failed
returns-in_err-root-clause-failed c =
    let root = c.args.deps.root in
    let p = c.args.packages in
    let n = c.in_ok-network.network in
    let says = fails_weaker (IsNoName root (paths_of n) (labels_of n)) (IsNoName root (paths_in p) (names_in p)) ⊥ c.in_err-root.field-0.0 (name_missing c.args.deps.is_inverse p n c.in_ok-network.ensures root) c.in_err-root.ensures.failed in
    search (rules, says)

pub returns-in_err-graph-clause-failed : goal.returns-in_err-graph-clause-failed
returns-in_err-graph-clause-failed c =
    let p = c.args.packages in
    let says = fails_weaker (Any (LacksNode (length (labels_of c.root_of.new.network))) c.reverse.new.self.items) (IsNoName c.args.deps.root (paths_in p) (names_in p)) ⊥ c.in_err-graph.field-0.0
    (λ lacks. absurd (none_lacks (goal.at.returns-in_err-graph-clause-failed c).After-reverse lacks)) c.in_err-graph.ensures.failed in
    search (rules, says)

pub returns-clause-graph : goal.returns-clause-graph
returns-clause-graph c =
    let at = (goal.at.returns-clause-graph c).After-reverse in
    let source = c.args.source.now in
    let root = c.args.deps.root in
    let n = c.in_ok-network.network in
    let rooted = c.root_of.new.network in
    let turned : Network = record rooted { edges = c.reverse.new.self } in
    let texts : map string_bytes (weights_of c.in_ok-graph.graph) ≡ map (shown_text c.args.is_terminal) (labels_of turned) = search rules in
    let d : Dependencies = record { graph = c.in_ok-graph.graph; root = c.in_ok-root.root } in
    graph_drawn c.args.deps.is_inverse c.args.packages n c.in_ok-network.ensures source root c.args.is_terminal d
    (graph_held source root c.args.is_terminal n rooted turned d (c.in_ok-root.ensures.root (are_whole at)) refl c.reverse.ensures.items texts c.in_ok-graph.ensures.edges)
