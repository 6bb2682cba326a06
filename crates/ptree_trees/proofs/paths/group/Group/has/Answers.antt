use Rattle.std.proofs.Common.{◌%◌, ◌<◌, ◌∙◌, sym, subst}
use Rattle.ptree_trees.proofs.NameKeys.{key_equal}
use Rattle.ptree_trees.proofs.paths.group.Group.has.Goals as goal

pub returns-then-self-lt8 : goal.returns-then-self-lt8
returns-then-self-lt8 c =
    let own = c.args.self.now in
    let other = c.args.path.now in
    sym (key_equal own.name.now other.cut.now.name.now own.bytes other.bytes (sym own.keyed ∙ (c.if-self-path.false ∙ other.keyed)) (subst (λ k. k % 256 < 8) own.keyed c.if-self-lt8.true))
