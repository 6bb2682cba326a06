use Rattle.std.proofs.Common.{map, take, rules}
use Rattle.ptree_trees.specs.PathGroups.{keyed_cut, group_of, AreSortedCuts}
use Rattle.ptree_trees.proofs.GroupResults.{group_more, groups_done}
use Rattle.ptree_trees.proofs.PathGroupings.{grouping_none}
use Rattle.ptree_trees.proofs.paths.groups.groups_by_name.Goals as goal

pub loop-path-init : goal.loop-path-init
loop-path-init c = let none = grouping_none in search rules

pub loop-path-preserved : goal.loop-path-preserved
loop-path-preserved c =
    let i = c.loop-path.path-index in
    let ys = c.deref-path-items.result.now in
    let sorted : AreSortedCuts c.in_ok-sorted.sorted.items ys = search rules in
    group_more c.in_ok-sorted.sorted.items ys i c.path-item.result (map group_of c.add_path.new.groups.items) sorted c.loop-path-test.true c.path-item.is
    (c.in_ok-add_path.ensures (map keyed_cut (take i ys)) c.loop-path.invariant)

pub returns : goal.returns
returns c = λ separator paths are.
    let xs = c.in_ok-sorted.sorted.items in
    let ys = c.deref-path-items.result.now in
    let sorted : AreSortedCuts xs ys = search rules in
    groups_done separator c.args.cuts.now xs ys c.loop-path.path-index (map group_of c.loop-path.groups.items) paths are c.in_ok-sorted.ensures sorted c.loop-path-test.false c.loop-path.invariant
