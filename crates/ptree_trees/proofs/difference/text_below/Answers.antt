use Rattle.std.proofs.Common.{None, Some}
use Rattle.ptree.specs.ReadItems.{item_line}
use Rattle.ptree_trees.specs.Found.{first_below}
use Rattle.ptree_trees.proofs.ItemsLeft.{next_left, not_below, none_below, text_is_below}
use Rattle.ptree_trees.proofs.difference.text_below.Goals as goal

pub returns-then-not-is_below-clause-text : goal.returns-then-not-is_below-clause-text
returns-then-not-is_below-clause-text c look depth x lines h =
    not_below (first_below c.args.level lines) c.is_below.result (c.is_below.ensures.below look depth x lines h) c.if-not-is_below.true

pub returns-in-Some-clause-text : goal.returns-in-Some-clause-text
returns-in-Some-clause-text c look depth x lines h =
    let item = c.in-Some.item in
    let (rest, is, left) = next_left look depth x c.args.reader.now c.next_item.new.self lines (Some item) h (λ done read. rw c.in-Some.is at c.in_ok-item.ensures.next look depth x done read) in
    text_is_below lines rest c.args.level (item_line item) is ((c.is_below.ensures.below look depth x lines h).0 c.if-not-is_below.false)

pub returns-in-None-clause-text : goal.returns-in-None-clause-text
returns-in-None-clause-text c look depth x lines h =
    none_below lines c.args.level (next_left look depth x c.args.reader.now c.next_item.new.self lines None h (λ done read. rw c.in-None.is at c.in_ok-item.ensures.next look depth x done read))
