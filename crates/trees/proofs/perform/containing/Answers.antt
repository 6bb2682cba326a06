use Rattle.trees.proofs.Common.{rules, IfOk-weaker, contains_text, has_part, part_test}
use Rattle.trees.proofs.perform.containing.Goals as goal

pub returns : goal.returns
returns c =
    IfOk-weaker c.kept.result _ _
    (λ kept h. h (has_part c.args.part.now) (λ text r calls. part_test c.args.part.now _ calls.shown.now r calls.shows (contains_text r c.args.part.now calls.shown.now (search rules))))
    c.kept.ensures
