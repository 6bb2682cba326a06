use Rattle.std.proofs.Common.{None, Some, rules, sym}
use Rattle.std.proofs.lemmas.Bool.{false≢true}
use Rattle.ptree_trees.proofs.ItemsLeft.{level_left, is_below_if, none_below}
use Rattle.ptree_trees.proofs.difference.is_below.Goals as goal

pub returns-in-Some-clause-below : goal.returns-in-Some-clause-below
returns-in-Some-clause-below c look depth x lines h =
    let below = is_below_if lines c.args.level c.in-Some.next (level_left look depth x c.args.reader.now lines (Some c.in-Some.next) h (λ done read t form. rw c.in-Some.is at c.next_level.ensures.level look depth x done read t form)) in
    search (rules, below)

pub returns-in-None-clause-below : goal.returns-in-None-clause-below
returns-in-None-clause-below c look depth x lines h =
    let none = level_left look depth x c.args.reader.now lines None h (λ done read t form. rw c.in-None.is at c.next_level.ensures.level look depth x done read t form) in
    (λ e. absurd (false≢true e), λ other. absurd (other (sym (none_below lines c.args.level none))))
