use Rattle.std.proofs.Common.{◌≡◌, ◌++◌, map, take, string_bytes}
use Rattle.trees.specs.Outlining.{text_of_lines}
use Rattle.trees.proofs.lists.outlines.push_lines.Given as goal

-- the lines so far were added
abbrev pub invariant-loop-line : goal.invariant-loop-line
invariant-loop-line l = string_bytes l.text ≡ string_bytes l.fn.text ++ text_of_lines (map (λ x. l.indent ++ x.now) (take l.line-index l.lines))
