use Rattle.std.proofs.Common.{inl, inr, sym, ◌∙◌, rules}
use Rattle.trees.proofs.Named.{ends_whole, ends_within}
use Rattle.trees.proofs.OutlinesBack.{no_length, some_length}
use Rattle.trees.proofs.drawings.why_end.Goals as goal

pub returns-then-is_empty : goal.returns-then-is_empty
returns-then-is_empty c = inl (no_length c.args.text.now (sym c.is_empty.ensures ∙ c.if-is_empty.true), search rules)

pub returns-then-ends_with : goal.returns-then-ends_with
returns-then-ends_with c = inr (inl (ends_whole c.args.text.now c.if-ends_with.ensures.cases, search rules))

pub returns-else-ends_with : goal.returns-else-ends_with
returns-else-ends_with c = inr (inr (some_length c.args.text.now (sym c.is_empty.ensures ∙ c.if-is_empty.false), ends_within c.args.text.now c.if-ends_with.ensures.cases, search rules))
