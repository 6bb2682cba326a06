use Rattle.std.proofs.Common.{[], ◌∷◌, codes}
use Rattle.std.proofs.lemmas.Result.{IfOk-weaker}
use Rattle.examples.proofs.pathing.three_paths.Goals as goal

pub returns-clause-top : goal.returns-clause-top
returns-clause-top c = IfOk-weaker c.paths_tree.result _ _ (λ t h. h []) c.paths_tree.ensures.below

pub returns-clause-below : goal.returns-clause-below
returns-clause-below c = IfOk-weaker c.paths_tree.result _ _ (λ t h. h (codes "z" ∷ [])) c.paths_tree.ensures.below
