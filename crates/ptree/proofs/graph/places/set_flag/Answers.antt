use Rattle.std.proofs.Common.{Vec, Global, Bool, ◌∙◌, ap, arith, rules}
use Rattle.ptree.proofs.Graphs.NodeFlags.{flag_set, flag_added}
use Rattle.ptree.proofs.graph.places.set_flag.Goals as goal
use Rattle.ptree.proofs.graph.places.set_flag.Goals.{then-node-len+in_ok-resize, else-node-len}

pub returns : goal.returns
returns c =
    let seen = c.args.seen.now in
    let items = λ (x : Vec Bool Global). x.items in
    record {
      flags = λ n h k. elim c.if-node-len.branch [
        | then-node-len+in_ok-resize w ↦
            flag_added n seen.items c.if-node-len.seen.items _ c.args.node _ (omega (arith, seen.ok.0)) (omega (arith, w.if-node-len.true, c.len.ensures)) h (ap items w.seen-is ∙ w.in_ok-resize.ensures.items) (search rules)
        | else-node-len w ↦ flag_set n seen.items c.if-node-len.seen.items _ c.args.node (omega (arith, w.if-node-len.false, c.len.ensures, seen.ok.0)) k (ap items w.seen-is) (search rules)
      ];
    }
