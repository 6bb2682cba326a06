use Rattle.std.specs.Prelude.{IfErr}
use Rattle.std.proofs.Common.{[], sym, subst}
use Rattle.ptree.specs.Drawing.{written_look}
use Rattle.ptree_trees.specs.Difference.{AreDrawingsWith, IsErrorOf}
use Rattle.ptree_trees.proofs.ItemsLeft.{error_part}
use Rattle.ptree_trees.proofs.difference.first_drawn_difference.Goals as goal
use Rattle.ptree_trees.proofs.difference.first_drawn_difference.Goals.{in-Ok-new, in-Err-new}

pub returns-clause-wrong : goal.returns-clause-wrong
returns-clause-wrong c =
    let look = written_look c.args.config.now in
    let depth = c.args.config.now.depth in
    let x = c.args.left.now in
    let y = c.args.right.now in
    elim c.match-new-2.branch [
      | in-Ok-new w ↦ subst (λ r. IfErr r (IsErrorOf look depth x y)) (sym w.found-is) (error_part w.find_first-found.result (AreDrawingsWith look depth x y) (IsErrorOf look depth x y) (w.find_first-found.ensures look depth x y c.in-Ok.ensures.start w.in-Ok-new.ensures.start))
      | in-Err-new w ↦ subst (λ r. IfErr r (IsErrorOf look depth x y)) (sym w.found-is) (w.wrong_right.ensures look depth x y ([], c.in-Ok.ensures.start) w.in-Err-new.ensures.error)
    ]
