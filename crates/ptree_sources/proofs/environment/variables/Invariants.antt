use Rattle.std.proofs.Common.{◌≡◌, map, take}
use Rattle.ptree_sources.specs.Environment.{variable_of, variables_in}
use Rattle.ptree_sources.proofs.environment.variables.Given as goal

abbrev pub invariant-loop-entry : goal.invariant-loop-entry
invariant-loop-entry l = map variable_of l.found.items ≡ variables_in (take l.entry-index l.entries)
