use Rattle.std.proofs.Common.{arith, ◌++◌}
use Rattle.ptree_trees.proofs.IndentedReading.{next_level, no_bullet}
use Rattle.ptree_trees.proofs.indented.add_line.Goals as goal
use Rattle.ptree_trees.proofs.indented.add_line.Goals.{then-level-eq0-via-then-level-eq0, then-level-eq0-via-else-level-eq0+then-level}

pub returns-in_default-clause-wrong : goal.returns-in_default-clause-wrong
returns-in_default-clause-wrong c = λ h level text next. c.in_default.ensures level (c.args.form.now.bullet.now ++ text) next.text_is next.line_is

pub returns-in_default-strip_front-clause-wrong : goal.returns-in_default-strip_front-clause-wrong
returns-in_default-strip_front-clause-wrong c = λ h.
    no_bullet c.args.form.now c.requires c.args.builder.now.level c.args.line.now c.in-Some.level c.in-Some.own.now c.in-Some.ensures.0 c.in-Some.ensures.1
    c.in_default-strip_front.ensures

pub returns-then-level-eq0-clause-wrong : goal.returns-then-level-eq0-clause-wrong
returns-then-level-eq0-clause-wrong c = λ h level text next.
    let fits = next_level c.args.form.now c.requires c.args.builder.now.level c.args.line.now c.in-Some.level c.in-Some.own.now c.in-Some.ensures.0 c.in-Some.ensures.1 level text next in
    elim c.then-level-eq0.branch [ then-level-eq0-via-then-level-eq0 w ↦ absurd (omega (arith, fits.0)) | then-level-eq0-via-else-level-eq0+then-level w ↦ absurd (omega (arith, fits.0, fits.1)) ]
