use Rattle.std.proofs.Common.{Some, ◌≡◌, ℕ, true, false, ◌++◌, List, ◌+◌, ◌*◌, ◌<◌, length, map, take}
use Rattle.ptree.specs.Line.{line_bytes}
use Rattle.ptree.specs.Looks.{look_of, own_text}
use Rattle.ptree.specs.Entries.{entries_below}
use Rattle.ptree.specs.Style.{start_codes}
use Rattle.ptree.specs.declared.sink.DrawError.TheVariants.{Memory}
use Rattle.ptree.proofs.Drawing.Engine.{AreBegun}
use Rattle.ptree.proofs.output.engine.+draw.Given as goal

-- a list takes a step more than each of its items
abbrev pub decreases-draw_children : goal.decreases-draw_children
decreases-draw_children g l = 2 * l.levels_left + 1

abbrev pub decreases-draw_item : goal.decreases-draw_item
decreases-draw_item g l = 2 * l.levels_left

-- the entries so far
abbrev pub invariant-draw_children-loop-item : goal.invariant-draw_children-loop-item
invariant-draw_children-loop-item g l = record {
  begun : (outer : List ℕ) → line_bytes l.fn.pen.line ≡ start_codes (look_of l.brush.look).branch ++ outer
      → (let look = look_of l.brush.look in AreBegun look (entries_below look l.levels_left) outer (map g.C.Shaped.shape l.items)
      (map g.C.Shaped.shape l.rest) (g.W.Sink.contents l.fn.f) (g.W.Sink.contents l.f));
  no_fault : g.W.Sink.faults l.f ≡ g.W.Sink.faults l.fn.f;
  error : l.pen.error ≡ Memory;
  kept : take l.width (line_bytes l.pen.line) ≡ line_bytes l.fn.pen.line;
  turned : l.pen.turned ≡ true → 0 < length l.rest → line_bytes l.pen.line ≡ take l.width (line_bytes l.pen.line) ++ own_text (look_of l.brush.look) (Some false);
}

abbrev pub decreases-draw_children-loop-item : goal.decreases-draw_children-loop-item
decreases-draw_children-loop-item g l = length l.rest
