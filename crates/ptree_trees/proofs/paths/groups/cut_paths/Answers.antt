use Rattle.std.proofs.Common.{[], get_or, rules}
use Rattle.ptree_trees.proofs.GroupSteps.{cut_pushed}
use Rattle.ptree_trees.proofs.StartLoops.{start_boundary}
use Rattle.ptree_trees.proofs.paths.groups.cut_paths.Goals as goal

pub split_at-requires : goal.split_at-requires
split_at-requires c =
    start_boundary c.args.separator c.args.start.now c.args.paths.now c.loop-path.path-index _ c.loop-path-test.true c.requires.start (search rules) (search rules)

pub loop-path-preserved : goal.loop-path-preserved
loop-path-preserved c =
    let s = c.args.separator in
    let start = c.args.start.now in
    let path = get_or c.args.paths.now c.loop-path.path-index (record { ref_ptr = (0, 0); now = [] }) in
    let back = c.split_at.ensures.back in
    let named = c.new.ensures.names in
    cut_pushed s start c.args.paths.now c.loop-path.path-index path c.loop-path.cuts.items c.push.new.self.items c.new.result c.loop-path-test.true
    c.loop-path.invariant (search rules) (search rules) c.in_ok-push.ensures.items
