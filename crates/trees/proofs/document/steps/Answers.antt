use Rattle.std.proofs.Common.{List, map, take_all, string_bytes, ap, ◌∙◌}
use Rattle.ptree_trees.specs.declared.documents.refused.Step.{Step}
use Rattle.ptree_trees.specs.RefusedPath.{step_of}
use Rattle.trees.specs.Documents.{steps_text}
use Rattle.trees.proofs.RefusedTexts.{next_step}
use Rattle.trees.proofs.document.steps.Goals as goal

pub loop-step-preserved : goal.loop-step-preserved
loop-step-preserved c =
    next_step c.args.path.now c.loop-step.step-index c.step-item.result (string_bytes c.loop-step.steps) (string_bytes c.push_step.new.steps)
    c.loop-step-test.true c.step-item.is c.loop-step.invariant c.in_ok-push_step.ensures

pub returns : goal.returns
returns c = c.loop-step.invariant ∙ ap (λ (xs : List Step). steps_text (map step_of xs)) (take_all c.loop-step.step-index c.args.path.now c.loop-step-test.false)
