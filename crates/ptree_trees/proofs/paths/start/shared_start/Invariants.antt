use Rattle.std.proofs.Common.{take}
use denote.Text.{Utf8}
use denote.Shadow.{shadow}
use Rattle.ptree_trees.specs.SharedStart.{AllStart}
use Rattle.ptree_trees.proofs.paths.start.shared_start.Given as goal

-- the paths so far begin with the text
abbrev pub invariant-loop-path : goal.invariant-loop-path
invariant-loop-path l = record { text : shadow (Utf8 l.start); begin : AllStart l.fn.separator l.start (take l.path-index l.paths) }
