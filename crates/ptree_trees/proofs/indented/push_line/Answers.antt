use Rattle.std.proofs.Common.{string_bytes}
use Rattle.ptree_trees.proofs.IndentedWriting.{unit_more}
use Rattle.ptree_trees.proofs.indented.push_line.Goals as goal

pub loop-i-preserved : goal.loop-i-preserved
loop-i-preserved c =
    unit_more c.args.form.now.unit.now (string_bytes c.args.out.now) (string_bytes c.loop-i.out) (string_bytes c.push_str.new.self) c.loop-i._i c.loop-i.invariant
    c.in_ok-push_str.ensures.bytes
