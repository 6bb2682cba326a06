use Rattle.std.proofs.Common.{◌≡◌}
use Rattle.std.specs.Iterator.Adapters.{rev_source}
use Rattle.std.specs.Slice.Iter.{iter_rest}
use Rattle.ptree.specs.Sources.{variables_of, last_value}
use Rattle.ptree.proofs.print_config.given.last_value.Given as goal

abbrev pub invariant-loop-variable : goal.invariant-loop-variable
invariant-loop-variable l =
    (goal.iterator-loop-variable).can_next l.variable-iterator
    × (goal.iterator-loop-variable).is_finite l.variable-iterator
    × (last_value l.spelling l.name (variables_of l.variables) ≡ last_value l.spelling l.name (variables_of (iter_rest (rev_source l.variable-iterator))))
