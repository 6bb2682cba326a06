use Rattle.trees.proofs.Common.{rules, IfErr-weaker, IfOk-weaker}
use Rattle.trees.specs.Depending.{edges_of_needs, IsGraphIn, IsNoName}
use Rattle.trees.specs.DependingParts.{names_in, needs_in, paths_in}
use Rattle.trees.specs.Meaning.{HoldsNoGraph, HoldsNoPairs, IsGraphOf}
use Rattle.trees.specs.Reading.{FailsFor}
use Rattle.trees.proofs.Meanings.{graph_meant, name_unmeant, read_within}
use Rattle.trees.proofs.Readings.{fails_weaker}
use Rattle.trees.proofs.deps.read_dependencies.Goals as goal

pub drawn-requires : goal.drawn-requires
drawn-requires c = read_within c.args.source.now c.in_ok-packages.packages c.in_ok-packages.ensures.read

pub returns-clause-graph : goal.returns-clause-graph
returns-clause-graph c =
    let source = c.args.source.now in
    let root = c.args.deps.root in
    let inverse = c.args.deps.is_inverse in
    let p = c.in_ok-packages.packages in
    IfOk-weaker c.drawn.result (IsGraphIn source root c.args.is_terminal (paths_in p) (names_in p) (edges_of_needs inverse (needs_in p))) (IsGraphOf source root inverse c.args.is_terminal)
    (graph_meant source p c.in_ok-packages.ensures.read root inverse c.args.is_terminal) c.drawn.ensures.graph

pub returns-clause-failed : goal.returns-clause-failed
returns-clause-failed c =
    let source = c.args.source.now in
    let root = c.args.deps.root in
    let p = c.in_ok-packages.packages in
    IfErr-weaker c.drawn.result (FailsFor (IsNoName root (paths_in p) (names_in p)) ⊥) (FailsFor (HoldsNoGraph source root) ⊥)
    (λ e. fails_weaker (IsNoName root (paths_in p) (names_in p)) (HoldsNoGraph source root) ⊥ e (name_unmeant source p c.in_ok-packages.ensures.read root)) c.drawn.ensures.failed

pub returns-in_err-packages-clause-failed : goal.returns-in_err-packages-clause-failed
returns-in_err-packages-clause-failed c =
    let source = c.args.source.now in
    let says = fails_weaker (HoldsNoPairs source) (HoldsNoGraph source c.args.deps.root) ⊥ c.in_err-packages.field-0.0 (λ none pairs file held some. absurd (some (none file pairs held))) c.in_err-packages.ensures.failed in
    search (rules, says)
