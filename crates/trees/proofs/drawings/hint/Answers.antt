use Rattle.trees.proofs.Common.{arith, config_of}
use Rattle.std.proofs.lemmas.Grind.{common_steps}
use Rattle.trees.proofs.Named.{hint_named, hint_nothing, hint_listed}
use Rattle.trees.proofs.drawings.hint.Goals as goal

pub returns-then-branch : goal.returns-then-branch
returns-then-branch c = hint_named (config_of c.args.config.now) c.args.text.now c.args.before.now _ _ _ c.new-hint.ensures.bytes c.if-branch.true c.in_ok-push_other.ensures

pub returns-then-is_empty : goal.returns-then-is_empty
returns-then-is_empty c = hint_nothing (config_of c.args.config.now) c.args.text.now c.args.before.now _ _ _ _ c.new-hint.ensures.bytes c.if-branch.false c.in_ok-push_other.ensures c.in_ok-could.ensures (grind (arith, common_steps))

pub returns : goal.returns
returns c = hint_listed (config_of c.args.config.now) c.args.text.now c.args.before.now _ _ _ _ _ c.new-hint.ensures.bytes c.if-branch.false c.in_ok-push_other.ensures c.in_ok-could.ensures c.in_ok-write.ensures.bytes
