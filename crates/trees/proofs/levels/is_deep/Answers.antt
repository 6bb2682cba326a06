use Rattle.trees.proofs.Common.{refl, rules, false≢true}
use Rattle.ptree_trees.proofs.IndentedTexts.{indent_more}
use Rattle.trees.proofs.Outlines.{is_deep, not_deep, next_level}
use Rattle.trees.proofs.levels.is_deep.Goals as goal

pub returns-then-level-eq-LEVELS : goal.returns-then-level-eq-LEVELS
returns-then-level-eq-LEVELS c =
    let n = c.loop-more.level in (
      λ _. is_deep 5000 c.args.unit.now c.args.line.now c.in-Some.more.now n c.if-level-eq-LEVELS.true (indent_more c.args.unit.now c.args.line.now c.loop-more.rest.now c.in-Some.more.now n c.loop-more.invariant.1 c.in-Some.ensures),
      λ _. refl,
    )

pub loop-more-preserved : goal.loop-more-preserved
loop-more-preserved c =
    let n = c.loop-more.level in (
      search rules,
      indent_more c.args.unit.now c.args.line.now c.loop-more.rest.now c.in-Some.more.now n c.loop-more.invariant.1 c.in-Some.ensures,
      next_level 5000 n c.loop-more.invariant.2 c.if-level-eq-LEVELS.false,
    )

pub returns : goal.returns
returns c = (
  λ e. absurd (false≢true e),
  λ deep. absurd (not_deep 5000 c.args.unit.now c.args.line.now c.loop-more.rest.now c.loop-more.level c.loop-more.invariant.2 c.loop-more.invariant.1 c.in_default.ensures deep),
)
