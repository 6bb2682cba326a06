use Rattle.std.proofs.Common.{refl}
use Rattle.ptree.specs.Looks.{look_of}
use Rattle.ptree.specs.Reached.{IsFurtherLine, IsOwnLine, IsPath, NoLine}
use Rattle.ptree.proofs.Reading.OpenDrawings.{no_root, root_next, further_next, own_next, wrong_next, unclosed_next}
use Rattle.ptree.proofs.read.follow.OpenDrawing.go_on.Goals as goal
use Rattle.ptree.proofs.read.follow.OpenDrawing.go_on.Goals.{in-Own+else-not-self-2, in-Further}

pub go_on-requires-clause-path : goal.go_on-requires-clause-path
go_on-requires-clause-path c = c.requires.after.1.path

pub returns-in_default : goal.returns-in_default
returns-in_default c = no_root (look_of c.args.frame.now.look) c.args.frame.now.depth c.args.text.now c.args.self.now c.if-not-self.true c.in_default.ensures

pub returns-then-not-self : goal.returns-then-not-self
returns-then-not-self c =
    root_next (look_of c.args.frame.now.look) c.args.frame.now.depth c.in-Some.own.now c.in-Some.rest.now c.args.text.now c.args.self.now _ c.if-not-self.true refl refl c.is_closed-self.ensures c.in-Some.ensures.0 c.in-Some.ensures.1

pub returns-in_default-2 : goal.returns-in_default-2
returns-in_default-2 c =
    let k = look_of c.args.frame.now.look in
    let none : NoLine k c.args.frame.now.depth c.args.self.now.path.flags.items c.args.text.now = rw c.in_default-2.is at c.in_ok-line.ensures.line in
    wrong_next k c.requires.readable c.args.frame.now.depth c.args.text.now c.args.self.now c.if-not-self.false none

pub returns-then-not-self-2 : goal.returns-then-not-self-2
returns-then-not-self-2 c =
    let k = look_of c.args.frame.now.look in
    let l : IsOwnLine k c.args.frame.now.depth c.args.self.now.path.flags.items c.args.text.now c.in-Own.own.now c.in-Some-2.rest.now c.go_on.new.self.flags.items = rw c.in-Own.is at (rw c.in-Some-2.is at c.in_ok-line.ensures.line) in
    unclosed_next k c.requires.readable c.args.frame.now.depth c.in-Own.own.now c.in-Some-2.rest.now c.args.text.now c.args.self.now c.go_on.new.self.flags.items c.if-not-self.false c.if-not-self-2.true l

pub returns : goal.returns
returns c =
    let k = look_of c.args.frame.now.look in
    let fs = c.args.self.now.path.flags.items in
    let new = c.go_on.new.self in
    let path : IsPath k.pieces new = rw c.in-Some-2.is at c.in_ok-line.ensures.path in
    let closes = c.is_closed-self-2.ensures in
    elim c.match-line.branch [
      | in-Own+else-not-self-2 w ↦
          let l : IsOwnLine k c.args.frame.now.depth fs c.args.text.now w.in-Own.own.now c.in-Some-2.rest.now new.flags.items = rw w.in-Own.is at (rw c.in-Some-2.is at c.in_ok-line.ensures.line) in
          own_next k c.requires.readable c.args.frame.now.depth w.in-Own.own.now c.in-Some-2.rest.now c.args.text.now c.args.self.now _ c.if-not-self.false c.if-not-self.false w.if-not-self-2.false l path (rw w.own-is at closes)
      | in-Further w ↦
          let l : IsFurtherLine k fs c.args.text.now w.in-Further.own.now c.in-Some-2.rest.now new.flags.items = rw w.in-Further.is at (rw c.in-Some-2.is at c.in_ok-line.ensures.line) in
          further_next k c.requires.readable c.args.frame.now.depth w.in-Further.own.now c.in-Some-2.rest.now c.args.text.now c.args.self.now _ c.if-not-self.false c.if-not-self.false l path (rw w.own-is at closes)
    ]
