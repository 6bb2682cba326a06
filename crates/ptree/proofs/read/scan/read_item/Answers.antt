use Rattle.std.proofs.Common.{length, arith, ap, refl, sym, ◌∙◌}
use Rattle.std.proofs.lemmas.Bool.{eqb-true, eqb-false, false≢true}
use Rattle.std.proofs.lemmas.List.{nil_from_length}
use Rattle.ptree.specs.Looks.{look_of}
use Rattle.ptree.specs.ReadItems.{read_text_of}
use Rattle.ptree.specs.Pieces.{pieces_of}
use Rattle.ptree.specs.Reached.{IsOwnLine, IsFurtherLine, ArePath}
use Rattle.ptree.proofs.Reading.Scanning.{scan_further, scan_own, scan_wrong, scan_open, scan_stop, scan_ends_wrong, scan_end, scan_moved, rest_is_shorter}
use Rattle.ptree.proofs.read.scan.read_item.Goals as goal

pub returns-in_default-clause-end : goal.returns-in_default-clause-end
returns-in_default-clause-end g c done h =
    let s = c.loop-path.invariant.scanned done h in
    scan_stop s c.stop.result c.stop.ensures (λ e. eqb-false (length c.loop-path.place.rest.now) 0 (sym c.is_empty.ensures ∙ c.loop-path-test.true) (ap length e))
    (scan_wrong s c.requires.readable (rw c.in_default.is at c.in_ok-line.ensures.line))

pub returns-in_default-drop_leaf_end-clause-end : goal.returns-in_default-drop_leaf_end-clause-end
returns-in_default-drop_leaf_end-clause-end g c done h =
    let s = c.loop-path.invariant.scanned done h in
    let l : IsOwnLine (look_of c.args.frame.now.look) c.args.frame.now.depth c.loop-path.path.flags.items c.loop-path.place.rest.now c.in-Own.own.now c.in-Some.more.now c.go_on.new.self.flags.items = rw c.in-Own.is at (rw c.in-Some.is at c.in_ok-line.ensures.line) in
    scan_stop s c.stop-in_default-drop_leaf_end.result c.stop-in_default-drop_leaf_end.ensures (λ e. eqb-false (length c.loop-path.place.rest.now) 0 (sym c.is_empty.ensures ∙ c.loop-path-test.true) (ap length e))
    (scan_open s c.requires.readable l c.in_default-drop_leaf_end.ensures)

pub returns-in-Own-clause-end : goal.returns-in-Own-clause-end
returns-in-Own-clause-end g c done h =
    let new = c.go_on.new.self in
    let path : ArePath (pieces_of c.args.frame.now.look.pieces) new.flags.items new.count new.shown.now = rw c.in-Some.is at c.in_ok-line.ensures.path in
    let l : IsOwnLine (look_of c.args.frame.now.look) c.args.frame.now.depth c.loop-path.path.flags.items c.loop-path.place.rest.now c.in-Own.own.now c.in-Some.more.now new.flags.items = rw c.in-Own.is at (rw c.in-Some.is at c.in_ok-line.ensures.line) in
    scan_own (c.loop-path.invariant.scanned done h) (read_text_of c.in-Some-drop_leaf_end.text) c.requires.readable l path c.in-Some-drop_leaf_end.ensures

pub loop-path-preserved : goal.loop-path-preserved
loop-path-preserved g c =
    let new = c.go_on.new.self in
    let path : ArePath (pieces_of c.args.frame.now.look.pieces) new.flags.items new.count new.shown.now = rw c.in-Some.is at c.in_ok-line.ensures.path in
    let l : IsFurtherLine (look_of c.args.frame.now.look) c.loop-path.path.flags.items c.loop-path.place.rest.now c.in-Further.own.now c.in-Some.more.now new.flags.items = rw c.in-Further.is at (rw c.in-Some.is at c.in_ok-line.ensures.line) in
    let less = rest_is_shorter _ c.in-Further.own.now c.in-Some.more.now c.loop-path.place.rest.now l.text_is in
    record {
      path = path;
      room = omega (arith, less, c.loop-path.invariant.room);
      level = l.count ∙ c.loop-path.invariant.level;
      less = omega (arith, less, c.loop-path.invariant.less);
      scanned = λ done h. scan_moved (scan_further (c.loop-path.invariant.scanned done h) c.requires.readable l path) refl refl c.in_ok-add_line-in-Further.ensures;
    }

pub returns-in_default-drop_leaf_end-2-clause-end : goal.returns-in_default-drop_leaf_end-2-clause-end
returns-in_default-drop_leaf_end-2-clause-end g c done h =
    scan_ends_wrong (c.loop-path.invariant.scanned done h) (nil_from_length c.loop-path.place.rest.now (eqb-true (length c.loop-path.place.rest.now) 0 (sym c.is_empty.ensures ∙ c.loop-path-test.false)))
    (λ text closed allowed. c.in_default-drop_leaf_end-2.ensures text closed)

pub returns-then-not-may_end-clause-end : goal.returns-then-not-may_end-clause-end
returns-then-not-may_end-clause-end g c done h =
    scan_ends_wrong (c.loop-path.invariant.scanned done h) (nil_from_length c.loop-path.place.rest.now (eqb-true (length c.loop-path.place.rest.now) 0 (sym c.is_empty.ensures ∙ c.loop-path-test.false)))
    (λ text closed allowed. let yes = c.may_end.ensures.1 allowed in let other = c.if-not-may_end.true in false≢true (sym other ∙ yes))

pub returns-clause-end : goal.returns-clause-end
returns-clause-end g c done h =
    scan_end (c.loop-path.invariant.scanned done h) (nil_from_length c.loop-path.place.rest.now (eqb-true (length c.loop-path.place.rest.now) 0 (sym c.is_empty.ensures ∙ c.loop-path-test.false)))
    (read_text_of c.in-Some-drop_leaf_end-2.text) c.in-Some-drop_leaf_end-2.ensures (c.may_end.ensures.0 c.if-not-may_end.false)
