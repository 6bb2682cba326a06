use Rattle.std.proofs.Common.{◌≡◌, ◌++◌, length}
use Rattle.ptree.specs.Sources.{variables_of}
use Rattle.ptree_c.specs.Loads.{variable_texts}
use Rattle.ptree_c.proofs.load.pairs_of.Given as goal

-- the pairs so far and those of the variables that are left are all
abbrev pub invariant-loop-variable : goal.invariant-loop-variable
invariant-loop-variable l = variables_of l.pairs.items ++ variable_texts l.texts l.rest ≡ variable_texts l.texts l.variables

abbrev pub decreases-loop-variable : goal.decreases-loop-variable
decreases-loop-variable l = length l.rest
