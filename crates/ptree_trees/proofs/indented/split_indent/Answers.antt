use Rattle.std.proofs.Common.{rules, arith, sym, ◌∙◌}
use Rattle.ptree_trees.proofs.IndentedTexts.{indent_none, indent_more, unit_shorter}
use Rattle.ptree_trees.proofs.indented.split_indent.Goals as goal

pub loop-more-preserved : goal.loop-more-preserved
loop-more-preserved c =
    let less = unit_shorter c.args.unit.now c.loop-more.rest.now c.in-Some.more.now c.requires c.in-Some.ensures in (
      search rules,
      indent_more c.args.unit.now c.args.line.now c.loop-more.rest.now c.in-Some.more.now c.loop-more.level c.loop-more.invariant.1 c.in-Some.ensures,
      omega (arith, less, c.loop-more.invariant.2),
    )

pub returns-then-is_indented : goal.returns-then-is_indented
returns-then-is_indented c = λ n t h e.
    indent_none c.args.unit.now c.requires n c.loop-more.level t c.loop-more.rest.now h (sym c.is_indented.ensures ∙ c.if-is_indented.true) c.in_default.ensures (sym e ∙ c.loop-more.invariant.1)
