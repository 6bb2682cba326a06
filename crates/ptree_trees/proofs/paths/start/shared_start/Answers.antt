use Rattle.std.proofs.Common.{[], get_or, rules}
use Rattle.std.specs.Prelude.{option_map}
use Rattle.ptree_trees.specs.CutName.{tail_names}
use Rattle.ptree_trees.proofs.StartLoops.{start_none, start_first, start_more}
use Rattle.ptree_trees.proofs.paths.start.shared_start.Goals as goal

pub loop-path-init : goal.loop-path-init
loop-path-init c =
    let s = c.args.separator in
    let rest = tail_names s (option_map (λ t. t.now) c.new.result.tail) in
    record { text = search rules; begin = start_first s c.in-Some.first.now.now c.new.result.name.now rest (search rules) }

pub returns-then-is_empty : goal.returns-then-is_empty
returns-then-is_empty c = start_none c.args.separator c.loop-path.start.now c.args.paths.now (search rules)

pub loop-path-preserved : goal.loop-path-preserved
loop-path-preserved c =
    let start = c.shared-start.result.now in
    let path = get_or c.args.paths.now c.loop-path.path-index (record { ref_ptr = (0, 0); now = [] }) in
    record {
      text = c.shared-start.utf8;
      begin = start_more c.args.separator c.loop-path.start.now start c.args.paths.now c.loop-path.path-index path c.loop-path-test.true c.loop-path.invariant.begin
          c.shared-start.ensures.first (search rules);
    }
