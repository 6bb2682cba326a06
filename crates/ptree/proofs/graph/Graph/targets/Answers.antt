use Rattle.std.proofs.Common.{ℕ, [], ◌∷◌, ◌++◌, ◌∙◌, take, ap, arith, append_assoc, sym, subst, List, ◌≡◌}
use Rattle.std.proofs.lemmas.List.{length-map, append-nil}
use Rattle.ptree.specs.Graph.{edges_of, neighbors_of}
use Rattle.ptree.specs.GraphLinks.{ends_of}
use Rattle.ptree.specs.Matched.{AreMatched}
use Rattle.ptree.proofs.Graphs.EdgeLists.{newest_starts, newest_within}
use Rattle.ptree.proofs.Graphs.Links.{linked-step}
use Rattle.ptree.proofs.Graphs.Matched.{matched_push}
use Rattle.ptree.proofs.graph.Graph.targets.Goals as goal

pub loop-number-init : goal.loop-number-init
loop-number-init g c =
    let edges = edges_of c.args.self.now in
    let start = newest_starts edges c.args.a.0 c.newest-number.result c.newest-number.ensures.newest in
    record {
      made = ([], subst (λ (ys : List _). AreMatched (λ (u : ℕ) y. g.F.Fn.post c.args.make (u, tt) y) [] ys) (sym c.in_ok-made.ensures.items) tt, start.0);
      newest = start.1;
      no_node = λ h. (c.newest-number.ensures.no_node h, c.in_ok-made.ensures.items);
    }

pub index-edge-requires : goal.index-edge-requires
index-edge-requires g c =
    omega (arith, newest_within (edges_of c.args.self.now) c.args.a.0 c.loop-number.number c.loop-number.invariant.newest, length-map c.args.self.now.edges.items ends_of)

pub loop-number-smaller : goal.loop-number-smaller
loop-number-smaller g c =
    (linked-step _ _ c.args.a.0 c.loop-number.number c.index-edge.result.now c.args.self.now.linked (omega arith) c.loop-number.invariant.newest c.index-edge.ensures).2

pub loop-number-preserved : goal.loop-number-preserved
loop-number-preserved g c =
    let step = linked-step _ _ c.args.a.0 c.loop-number.number c.index-edge.result.now c.args.self.now.linked (omega arith) c.loop-number.invariant.newest c.index-edge.ensures in
    let (given, matched, whole) = c.loop-number.invariant.made in
    record {
      made = (
        given ++ c.index-edge.result.now.target ∷ [],
        subst (λ (ys : List _). AreMatched (λ (u : ℕ) y. g.F.Fn.post c.args.make (u, tt) y) (given ++ c.index-edge.result.now.target ∷ []) ys) (sym c.in_ok-push.ensures.items) (matched_push _ given c.loop-number.made.items c.index-edge.result.now.target _ matched c.make.ensures),
        append_assoc given _ _ ∙ ap (λ ts. given ++ ts) (sym step.0) ∙ whole,
      );
      newest = step.1;
      no_node = λ h. absurd (omega (arith, (c.loop-number.invariant.no_node h).0));
    }

pub returns-clause-made : goal.returns-clause-made
returns-clause-made g c =
    let edges = edges_of c.args.self.now in
    let (given, matched, whole) = c.loop-number.invariant.made in
    let ended : 0 ≡ c.loop-number.number = omega (arith, c.loop-number-test.false) in
    subst (λ (us : List ℕ). AreMatched (λ (u : ℕ) y. g.F.Fn.post c.args.make (u, tt) y) us c.loop-number.made.items)
    (sym (append-nil given) ∙ ap (λ k. given ++ neighbors_of (take k edges) c.args.a.0) ended ∙ whole) matched

pub returns-clause-no_node : goal.returns-clause-no_node
returns-clause-no_node g c = λ h. (c.loop-number.invariant.no_node h).1

pub returns-in_err-push-clause-no_node : goal.returns-in_err-push-clause-no_node
returns-in_err-push-clause-no_node g c = λ h. absurd (omega (arith, (c.loop-number.invariant.no_node h).0))
