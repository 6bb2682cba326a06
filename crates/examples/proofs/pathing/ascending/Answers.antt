use Rattle.std.proofs.Common.{[]}
use Rattle.std.proofs.lemmas.Result.{IfOk-weaker}
use Rattle.examples.proofs.pathing.ascending.Goals as goal

pub returns-clause-ascend : goal.returns-clause-ascend
returns-clause-ascend c = IfOk-weaker c.sorted_paths_tree.result _ _ (λ t h. (h []).0) c.sorted_paths_tree.ensures.below

pub returns-clause-same : goal.returns-clause-same
returns-clause-same c = IfOk-weaker c.sorted_paths_tree.result _ _ (λ t h. (h []).1) c.sorted_paths_tree.ensures.below
