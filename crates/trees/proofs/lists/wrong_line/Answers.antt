use Rattle.std.proofs.Common.{◌∙◌, sym, rules}
use Rattle.trees.proofs.Listings.{wrong_zero, wrong_deep, wrong_quoted, wrong_unlike, wrong_never}
use Rattle.trees.proofs.lists.wrong_line.Goals as goal

pub returns-then-has_zero : goal.returns-then-has_zero
returns-then-has_zero c = wrong_zero c.args.ends_in_zero c.args.others c.args.path.now (sym c.has_zero.ensures ∙ c.if-has_zero.true)

pub returns-then-has_more_names : goal.returns-then-has_more_names
returns-then-has_more_names c =
    search (rules, wrong_deep c.args.ends_in_zero c.args.others c.args.path.now c.names_of.result.now c.names_of.ensures (sym c.has_more_names.ensures ∙ c.if-has_more_names.true))

pub returns-then-is_quoted : goal.returns-then-is_quoted
returns-then-is_quoted c = wrong_quoted c.args.ends_in_zero c.args.others c.args.path.now (sym c.is_quoted.ensures ∙ c.if-is_quoted.true)

pub returns-then-is_unlike : goal.returns-then-is_unlike
returns-then-is_unlike c = wrong_unlike c.args.ends_in_zero c.args.others c.args.path.now (sym c.is_unlike.ensures ∙ c.if-is_unlike.true)

pub returns-else-is_unlike : goal.returns-else-is_unlike
returns-else-is_unlike c =
    wrong_never c.args.ends_in_zero c.args.others c.args.path.now c.names_of.result.now c.names_of.ensures (sym c.has_zero.ensures ∙ c.if-has_zero.false)
    (sym c.has_more_names.ensures ∙ c.if-has_more_names.false) (sym c.is_quoted.ensures ∙ c.if-is_quoted.false) (sym c.is_unlike.ensures ∙ c.if-is_unlike.false)
