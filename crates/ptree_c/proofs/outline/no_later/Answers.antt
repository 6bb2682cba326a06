use Rattle.std.proofs.Common.{◌≡◌, ◌+◌, List, [], ℕ, replicate, sym, subst, arith}
use Rattle.std.proofs.lemmas.Grind.{common_steps}
use Rattle.ptree_c.specs.Outlines.{AreLater}
use Rattle.ptree_c.proofs.Later.{none_later}
use Rattle.ptree_c.proofs.outline.no_later.Goals as goal

pub returns-clause-none : goal.returns-clause-none
returns-clause-none c =
    let resized = c.in_ok-resize.ensures.items in
    let made : c.resize.new.self.items ≡ replicate (c.args.deepest + 2) 0 = grind (arith, common_steps, resized) in
    subst (λ (z : List ℕ). AreLater z []) (sym made) (none_later (c.args.deepest + 2))
