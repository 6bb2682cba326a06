use Rattle.std.proofs.Common.{drop, ◌↔◌}
use Rattle.trees.proofs.OutlinesBack.{AreKeptItems}
use Rattle.trees.proofs.lists.check_texts.Given as goal

-- the texts that are left are read again exactly if all are
abbrev pub invariant-loop-i : goal.invariant-loop-i
invariant-loop-i l = AreKeptItems l.bullet (drop l.i l.entry-items) ↔ AreKeptItems l.bullet l.entry-items
