-- The recursion ends, since each half of a list is shorter than the list.
use Rattle.examples.proofs.building.+add_list.Given as goal

abbrev pub decreases-add_list : goal.decreases-add_list
decreases-add_list l = l.len
