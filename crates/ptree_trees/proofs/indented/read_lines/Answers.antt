use Rattle.std.proofs.Common.{◌+◌, ◌++◌, ◌∷◌, [], Err, rules, subst, ap, sym, ◌∙◌, length}
use Rattle.std.proofs.lemmas.Bool.{eqb-true, eqb-false}
use Rattle.std.proofs.lemmas.List.{nil_from_length}
use Rattle.ptree.specs.Outline.{line}
use Rattle.ptree.specs.Texts.{HasNoLineFeed}
use Rattle.ptree.specs.Tree.{tree_of}
use Rattle.ptree_trees.specs.Indented.{begins_blank}
use Rattle.ptree_trees.proofs.IndentedReading.{stage_root, stage_more, stage_wrong, root_wrong, root_missing, stage_ends, stage_form}
use Rattle.ptree_trees.proofs.IndentedResults.{reading_err}
use Rattle.ptree_trees.proofs.indented.read_lines.Goals as goal

pub returns-in_default : goal.returns-in_default
returns-in_default c = root_missing c.args.form.now c.requires.bullet c.args.text.now c.in_default.ensures

pub returns-in_default-root_text : goal.returns-in_default-root_text
returns-in_default-root_text c =
    root_wrong c.args.form.now c.requires.bullet c.args.text.now c.in-Some.first.now c.in-Some.behind.now c.in-Some.ensures.0
    c.in_default-root_text.ensures c.in-Some.ensures.1

pub loop-line-init : goal.loop-line-init
loop-line-init c =
    let root = c.in-Some-root_text.root.now in
    let first = c.in-Some-root_text.ensures.1 in (
      search rules,
      stage_root c.args.form.now c.args.text.now root c.in-Some.behind.now c.new-builder.result
          (subst HasNoLineFeed first c.in-Some.ensures.0) (ap begins_blank (sym first) ∙ c.in-Some-root_text.ensures.0)
          (c.in-Some.ensures.1 ∙ ap (λ z. z ++ 10 ∷ c.in-Some.behind.now) first)
          (c.new-builder.ensures.outline ∙ ap (λ z. line 0 z ∷ []) (c.in_ok-from_str.ensures.ok)) c.new-builder.ensures.level,
    )

pub returns-in_err-add_line : goal.returns-in_err-add_line
returns-in_err-add_line c =
    let split = c.in-Some-split_line in
    reading_err c.args.form.now c.args.text.now (c.loop-line.lines + 1) c.in_err-add_line.field-0.0
    (λ m e. c.in_err-add_line.ensures.number m (ap Err e))
    (λ e. stage_wrong c.args.form.now c.requires.unit c.args.text.now c.loop-line.builder c.loop-line.rest.now split.line.now split.more.now c.loop-line.lines
    c.loop-line.invariant.1 split.ensures.0 split.ensures.1 (c.in_err-add_line.ensures.wrong (ap Err e)))
    (λ e. c.in_err-add_line.ensures.end (ap Err e)) c.from_residual-in_err-add_line.result (search rules)

pub loop-line-preserved : goal.loop-line-preserved
loop-line-preserved c =
    let split = c.in-Some-split_line in (
      search rules,
      stage_more c.args.form.now c.requires.unit c.args.text.now c.loop-line.builder c.add_line.new.builder c.loop-line.rest.now split.line.now split.more.now
          c.loop-line.lines c.loop-line.invariant.1 split.ensures.0 split.ensures.1 c.in_ok-add_line.ensures.added,
    )

pub returns-then-not-is_empty : goal.returns-then-not-is_empty
returns-then-not-is_empty c =
    let rest = c.loop-line.rest.now in
    stage_ends c.args.form.now c.requires.unit c.args.text.now c.loop-line.builder rest c.loop-line.lines c.loop-line.invariant.1 c.in_default-split_line.ensures
    (λ e. eqb-false (length rest) 0 (sym c.is_empty.ensures ∙ c.if-not-is_empty.true) (ap length e))

pub returns : goal.returns
returns c =
    let rest = c.loop-line.rest.now in
    stage_form c.args.form.now c.args.text.now c.loop-line.builder rest c.loop-line.lines c.loop-line.invariant.1
    (nil_from_length rest (eqb-true (length rest) 0 (sym c.is_empty.ensures ∙ c.if-not-is_empty.false))) (tree_of c.in_ok-build.field-0) c.in_ok-build.ensures.outline
