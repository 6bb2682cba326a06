use Rattle.std.proofs.Common.{refl, rules, subst}
use Rattle.std.specs.Io.KnownBytes.{Appends}
use Rattle.std.specs.List.{concat}
use Rattle.ptree.specs.declared.output.look.Look.{Look as HeldLook}
use Rattle.ptree.specs.Entries.{drawn_entries}
use Rattle.ptree.specs.Looks.{look_of}
use Rattle.ptree.specs.Writing.{AppendsEntries}
use Rattle.ptree.proofs.Drawing.Engine.{nothing_yet, memory_is}
use Rattle.ptree.proofs.Sinks.Written.{written_err}
use Rattle.ptree.proofs.output.engine.draw.Goals as goal

pub returns-in_err-pen-clause-bytes : goal.returns-in_err-pen-clause-bytes
returns-in_err-pen-clause-bytes g c = written_err _ _ _ _ _ c.from_residual.ensures.1 (nothing_yet _ _)

pub returns-in_err-brush-clause-bytes : goal.returns-in_err-brush-clause-bytes
returns-in_err-brush-clause-bytes g c = written_err _ _ _ _ _ c.from_residual-in_err-brush.ensures.1 (nothing_yet _ _)

pub returns-in-Ok-clause-bytes : goal.returns-in-Ok-clause-bytes
returns-in-Ok-clause-bytes g c =
    subst (λ (l : HeldLook). Appends (g.W.Sink.contents c.args.f.now) (g.W.Sink.contents c.draw_root-drawn.new.f) (concat (drawn_entries (look_of l) c.args.depth (g.D.Drawn.shape_to c.args.root.now c.args.depth)))) c.in_ok-brush.ensures (search rules)

pub returns-in-Err-clause-bytes : goal.returns-in-Err-clause-bytes
returns-in-Err-clause-bytes g c =
    (subst (λ (l : HeldLook). AppendsEntries (g.W.Sink.contents c.args.f.now) (g.W.Sink.contents c.draw_root-drawn.new.f) c.draw_root-drawn.new.pen.error (drawn_entries (look_of l) c.args.depth (g.D.Drawn.shape_to c.args.root.now c.args.depth))) c.in_ok-brush.ensures c.in-Err.ensures.bytes).0

pub returns-in-Err-clause-whole : goal.returns-in-Err-clause-whole
returns-in-Err-clause-whole g c = λ is.
    (subst (λ (l : HeldLook). AppendsEntries (g.W.Sink.contents c.args.f.now) (g.W.Sink.contents c.draw_root-drawn.new.f) c.draw_root-drawn.new.pen.error (drawn_entries (look_of l) c.args.depth (g.D.Drawn.shape_to c.args.root.now c.args.depth))) c.in_ok-brush.ensures c.in-Err.ensures.bytes).1
    (memory_is _ _ _ _ c.into_error.ensures refl refl is)
