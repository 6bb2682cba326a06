use Rattle.std.proofs.Common.{◌≡◌, arith, length, length-append, ◌∙◌, [], ap, refl}
use Rattle.ptree.specs.Entries.{entries_below, drawn_entries}
use Rattle.ptree.specs.Line.{line_bytes}
use Rattle.ptree.specs.Looks.{look_of}
use Rattle.ptree.specs.Shape.{kids}
use Rattle.ptree.proofs.Drawing.Engine.{cut_back, root_held, root_turned}
use Rattle.ptree.proofs.Sinks.Written.{entries_none, entries_err, entry_part}
use Rattle.ptree.proofs.Drawing.Join.{root_written, root_alone}
use Rattle.ptree.proofs.output.engine.draw_root.Goals as goal

pub returns-in_err-append-clause-bytes : goal.returns-in_err-append-clause-bytes
returns-in_err-append-clause-bytes g c =
    entries_err _ _ _ _ _ _ c.from_residual.ensures.1 (entries_none _ c.args.pen.now.error (drawn_entries (look_of c.args.brush.now.look) c.args.depth (g.D.Drawn.shape_to c.args.root.now c.args.depth)))

pub draw_own-requires : goal.draw_own-requires
draw_own-requires g c =
    let look = look_of c.args.brush.now.look in
    let old = line_bytes c.args.pen.now.line in
    let wide : c.len-width.result ≡ length old = c.len-width.ensures in
    let is = c.in_ok-append.ensures.bytes in
    record {
      error = c.requires.error;
      width = omega (arith, wide, ap length is, length-append old c.as_bytes.result.now);
      turned = root_turned look c.len-width.result old _ c.as_bytes.result.now wide is (c.as_bytes.ensures.value ∙ c.end.ensures);
    }

pub returns-in_err-draw_own-clause-bytes : goal.returns-in_err-draw_own-clause-bytes
returns-in_err-draw_own-clause-bytes g c =
    let look = look_of c.args.brush.now.look in
    let held = root_held look c.len-width.result _ _ _ c.len-width.ensures c.in_ok-append.ensures.bytes c.requires.start in
    entries_err _ _ _ _ _ _ c.from_residual-in_err-draw_own.ensures.1
    (entry_part _ _ _ _ (entries_below look c.args.depth [] (g.D.Drawn.shape_to c.args.root.now c.args.depth)) (c.in_err-draw_own.ensures.bytes c.args.depth [] held) c.in_err-draw_own.ensures.memory)

pub returns-clause-bytes : goal.returns-clause-bytes
returns-clause-bytes g c =
    let look = look_of c.args.brush.now.look in
    root_written look c.args.depth (g.D.Drawn.shape_to c.args.root.now c.args.depth) (kids (g.D.Drawn.shape_to c.args.root.now c.args.depth)) _ _ _ _ _ (λ z. c.if-depth-eq0.false z) refl
    (c.in_ok-draw_own.ensures.bytes c.args.depth [] (root_held look c.len-width.result _ _ _ c.len-width.ensures c.in_ok-append.ensures.bytes c.requires.start))
    c.draw_below.ensures.bytes

pub draw_below-requires : goal.draw_below-requires
draw_below-requires g c = record {
  some = λ z. c.if-depth-eq0.false z;
  error = c.in_ok-draw_own.ensures.error;
  turned = c.draw_own.ensures.turned ∙ c.requires.turned;
  start = cut_back c.len-width.result _ _ _ _ _ c.len-width.ensures c.in_ok-append.ensures.bytes c.in_ok-draw_own.ensures.kept c.truncate.ensures ∙ c.requires.start;
}

pub returns-then-depth-eq0-clause-bytes : goal.returns-then-depth-eq0-clause-bytes
returns-then-depth-eq0-clause-bytes g c =
    let look = look_of c.args.brush.now.look in
    let held = root_held look c.len-width.result _ _ _ c.len-width.ensures c.in_ok-append.ensures.bytes c.requires.start in
    root_alone look c.args.depth (g.D.Drawn.shape_to c.args.root.now c.args.depth) _ _ c.if-depth-eq0.true (c.in_ok-draw_own.ensures.bytes c.args.depth [] held)
