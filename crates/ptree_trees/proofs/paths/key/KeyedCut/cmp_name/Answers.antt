use Rattle.std.proofs.Common.{◌%◌, ◌<◌, ◌∙◌, sym, ap, subst}
use Rattle.std.specs.Ordering.{nat_cmp}
use Rattle.ptree_trees.specs.CutName.{name_key}
use Rattle.ptree_trees.proofs.NameKeys.{key_same, key_cmp}
use Rattle.ptree_trees.proofs.paths.key.KeyedCut.cmp_name.Goals as goal

pub returns-then-self-other : goal.returns-then-self-other
returns-then-self-other c =
    let own = c.args.self.now in
    let other = c.args.other.now in
    c.cmp.ensures ∙ (ap (nat_cmp own.key) other.keyed
    ∙ (ap (λ k. nat_cmp k (name_key other.cut.now.name.now)) own.keyed
    ∙ key_cmp own.cut.now.name.now other.cut.now.name.now own.bytes other.bytes (λ e. c.if-self-other.true (own.keyed ∙ (e ∙ sym other.keyed)))))

pub returns-then-self-lt8 : goal.returns-then-self-lt8
returns-then-self-lt8 c =
    let own = c.args.self.now in
    let other = c.args.other.now in
    sym (key_same own.cut.now.name.now other.cut.now.name.now own.bytes other.bytes (sym own.keyed ∙ (c.if-self-other.false ∙ other.keyed)) (subst (λ k. k % 256 < 8) own.keyed c.if-self-lt8.true))
