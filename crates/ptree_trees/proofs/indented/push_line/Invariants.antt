use Rattle.std.proofs.Common.{◌≡◌, ◌++◌, string_bytes}
use Rattle.ptree_trees.specs.Indented.{indent}
use Rattle.ptree_trees.proofs.indented.push_line.Given as goal

-- the units so far were added
abbrev pub invariant-loop-i : goal.invariant-loop-i
invariant-loop-i l = string_bytes l.out ≡ string_bytes l.fn.out ++ indent l.form.unit.now l._i
