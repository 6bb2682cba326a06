use Rattle.std.proofs.Common.{ap}
use Rattle.ptree.specs.Looks.{look_of}
use Rattle.ptree.specs.Line.{line_bytes}
use Rattle.ptree.proofs.Drawing.Standing.{stands_up, flags_up, width_up}
use Rattle.ptree.proofs.output.writer.go_up.Goals as goal

pub returns-clause-stands : goal.returns-clause-stands
returns-clause-stands c =
    stands_up (look_of c.args.brush.now.look) _ _ _ _ _ c.args.rungs.now.items c.leave.new.rungs.items c.args.level _ c.args.is_last c.requires.some c.requires.within c.requires.stands c.leave.ensures.path
    (ap line_bytes c.leave.ensures.line) c.leave.ensures.turned
    (width_up (look_of c.args.brush.now.look) c.args.rungs.now.items c.leave.new.rungs.items c.args.level c.index_mut.result.now c.requires.some c.requires.within c.requires.stands.widths c.leave.ensures.path c.index_mut.ensures.value)

pub returns-clause-path : goal.returns-clause-path
returns-clause-path c = flags_up c.args.rungs.now.items c.leave.new.rungs.items c.args.level _ c.args.is_last c.requires.some c.requires.within c.leave.ensures.path
