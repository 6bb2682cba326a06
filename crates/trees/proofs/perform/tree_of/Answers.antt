use Rattle.trees.proofs.Common.{IfOk, sym, subst, IfErr, tree_of}
use Rattle.trees.specs.declared.command.Tree.{Tree as Given}
use Rattle.trees.specs.Writing.{IsGiven, FailsToGive}
use Rattle.trees.proofs.Readings.{both_err}
use Rattle.trees.proofs.perform.tree_of.Goals as goal

pub returns-in-Json-clause-failed : goal.returns-in-Json-clause-failed
returns-in-Json-clause-failed c = subst (λ (form : Given). IfErr c.tree.result (FailsToGive c.args.source.now form)) (sym c.in-Json.is) (both_err c.tree.result _ _ c.tree.ensures.failed c.tree.ensures.place)

pub returns-in-Toml-clause-failed : goal.returns-in-Toml-clause-failed
returns-in-Toml-clause-failed c = subst (λ (form : Given). IfErr c.tree-in-Toml.result (FailsToGive c.args.source.now form)) (sym c.in-Toml.is) (both_err c.tree-in-Toml.result _ _ c.tree-in-Toml.ensures.failed c.tree-in-Toml.ensures.place)

pub returns-in-Paths-clause-given : goal.returns-in-Paths-clause-given
returns-in-Paths-clause-given c = subst (λ (form : Given). IfOk c.listed.result (λ t. IsGiven c.args.source.now form (tree_of t))) (sym c.in-Paths.is) c.listed.ensures.listed

pub returns-in-Paths-clause-failed : goal.returns-in-Paths-clause-failed
returns-in-Paths-clause-failed c = subst (λ (form : Given). IfErr c.listed.result (FailsToGive c.args.source.now form)) (sym c.in-Paths.is) c.listed.ensures.failed

pub returns-in-Outline-clause-given : goal.returns-in-Outline-clause-given
returns-in-Outline-clause-given c = subst (λ (form : Given). IfOk c.outline.result (λ t. IsGiven c.args.source.now form (tree_of t))) (sym c.in-Outline.is) c.outline.ensures.some

pub returns-in-Outline-clause-failed : goal.returns-in-Outline-clause-failed
returns-in-Outline-clause-failed c = subst (λ (form : Given). IfErr c.outline.result (FailsToGive c.args.source.now form)) (sym c.in-Outline.is) c.outline.ensures.failed
