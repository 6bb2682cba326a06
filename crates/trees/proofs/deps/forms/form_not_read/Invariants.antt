use Rattle.trees.proofs.OtherFiles.{NoneOf}
use Rattle.trees.proofs.deps.forms.form_not_read.Given as goal

-- no line so far is one of another file
abbrev pub invariant-loop-line : goal.invariant-loop-line
invariant-loop-line l = NoneOf l.yielded
