use Rattle.std.proofs.Common.{refl, arith, ◌≡◌, ◌+◌}
use Rattle.ptree.specs.Continuation.{line_count}
use Rattle.ptree.specs.Looks.{look_of}
use Rattle.ptree.proofs.Reading.Scanning.{root_before, root_short, root_wrong, scan_start, stop_error}
use Rattle.ptree.proofs.read.scan.read_start.Goals as goal

pub returns-in_default : goal.returns-in_default
returns-in_default c =
    let k = look_of c.args.frame.now.look in
    let depth = c.args.frame.now.depth in
    let x = c.args.text.now in
    let count : line_count x ≡ 0 + line_count x = omega arith in
    stop_error k depth x x 0 c.stop.result c.stop.ensures refl count (root_before k c.requires depth x) (root_wrong k depth x c.in_default.ensures) (root_short k depth x)

pub returns : goal.returns
returns c = scan_start (look_of c.args.frame.now.look) c.args.frame.now.depth c.args.text.now c.in-Some.own.now c.in-Some.rest.now c.in-Some.ensures.0 c.in-Some.ensures.1
