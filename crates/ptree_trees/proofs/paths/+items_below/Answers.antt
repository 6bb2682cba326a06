use Rattle.std.proofs.Common.{rules}
use Rattle.ptree_trees.proofs.PathLoops.{forest_none, groups_whole, fewer_names, item_pushed, items_done}
use Rattle.ptree_trees.proofs.paths.+items_below.Goals as goal

pub returns-then-is_empty : goal.returns-then-is_empty
returns-then-is_empty t c = forest_none c.args.is_sorted c.args.separator c.args.paths.now c.new.result.items (search rules) (search rules)

pub items_below-requires : goal.items_below-requires
items_below-requires t c =
    let s = c.args.separator in
    let start = c.shared_start-start.result.now in
    let gs = c.deref-group-items.result.now in
    let passed = c.as_slice.result.now in
    let all = groups_whole c.args.is_sorted s start gs c.args.paths.now c.shared_start-start.ensures (search rules) in
    (fewer_names c.args.is_sorted s start gs c.loop-group.group-index c.group-item.result c.args.paths.now passed c.loop-group-test.true all c.group-item.is c.as_slice.ensures.value t c.decreases, c.requires)

pub loop-group-preserved : goal.loop-group-preserved
loop-group-preserved t c =
    let s = c.args.separator in
    let start = c.shared_start-start.result.now in
    let gs = c.deref-group-items.result.now in
    let all = groups_whole c.args.is_sorted s start gs c.args.paths.now c.shared_start-start.ensures (search rules) in
    let pushed =
    item_pushed c.args.is_sorted s start gs c.loop-group.group-index c.group-item.result c.args.paths.now c.as_slice.result.now c.loop-group.items.items c.push.new.self.items c.in_ok-new_item.field-0 c.in_ok-children.children.items
    c.loop-group-test.true all c.group-item.is c.as_slice.ensures.value (search rules) c.in_ok-push.ensures.items c.in_ok-children.ensures c.loop-group.invariant.names c.loop-group.invariant.tails in
    record { names = pushed.0; tails = pushed.1 }

pub returns : goal.returns
returns t c =
    let s = c.args.separator in
    let start = c.shared_start-start.result.now in
    let gs = c.deref-group-items.result.now in
    let all = groups_whole c.args.is_sorted s start gs c.args.paths.now c.shared_start-start.ensures (search rules) in
    items_done c.args.is_sorted s start gs c.loop-group.group-index c.args.paths.now c.loop-group.items.items c.loop-group-test.false all c.loop-group.invariant.names c.loop-group.invariant.tails
