use Rattle.std.proofs.Common.{◌+◌, inl, inr, arith}
use Rattle.std.proofs.lemmas.Bool.{cases_lt}
use Rattle.ptree.proofs.Drawing.Inserted.{no_line_feed_behind}
use Rattle.ptree.proofs.output.feeds.holds_line_feed.Goals as goal

pub returns : goal.returns
returns g c = λ none. no_line_feed_behind c.args.bytes.now c.args.start (λ k low high. elim (cases_lt k (c.loop-place.place + g.row.N)) [
  | inl before ↦ c.holds_line_feed_at-2.ensures none k (omega arith) before
  | inr behind ↦ c.loop-place.invariant.behind k behind high
])
