use Rattle.std.proofs.Common.{Some, ◌≡◌, ℕ, true, false, ◌++◌, List, ◌+◌, ◌*◌, ◌<◌, length, map, take}
use Rattle.ptree.specs.Data.{value_pairs, pair_shape}
use Rattle.ptree.specs.Line.{line_bytes}
use Rattle.ptree.specs.Looks.{look_of, own_text}
use Rattle.ptree.specs.Entries.{entries_below}
use Rattle.ptree.specs.Parts.{part_of, row_pairs}
use Rattle.ptree.specs.Style.{start_codes}
use Rattle.ptree.specs.declared.sink.DrawError.TheVariants.{Memory}
use Rattle.ptree.proofs.Drawing.Engine.{AreBegun}
use Rattle.ptree.proofs.value.row.+draw_row.Given as goal

-- a row takes a step more than each of its values
abbrev pub decreases-draw_row : goal.decreases-draw_row
decreases-draw_row g l = 2 * l.levels_left + 1

abbrev pub decreases-draw_node : goal.decreases-draw_node
decreases-draw_node g l = 2 * l.levels_left

-- the entries so far
abbrev pub invariant-draw_row-loop-node : goal.invariant-draw_row-loop-node
invariant-draw_row-loop-node g l = record {
  begun : (outer : List ℕ) → line_bytes l.fn.pen.line ≡ start_codes (look_of l.brush.look).branch ++ outer
      → (let look = look_of l.brush.look in AreBegun look (entries_below look l.levels_left) outer (map pair_shape (value_pairs (part_of l.part)))
      (map pair_shape (row_pairs l.row)) (g.W.Sink.contents l.fn.f) (g.W.Sink.contents l.f));
  no_fault : g.W.Sink.faults l.f ≡ g.W.Sink.faults l.fn.f;
  error : l.pen.error ≡ Memory;
  kept : take l.width (line_bytes l.pen.line) ≡ line_bytes l.fn.pen.line;
  turned : l.pen.turned ≡ true → 0 < length (row_pairs l.row) → line_bytes l.pen.line ≡ take l.width (line_bytes l.pen.line) ++ own_text (look_of l.brush.look) (Some false);
}

abbrev pub decreases-draw_row-loop-node : goal.decreases-draw_row-loop-node
decreases-draw_row-loop-node g l = length (row_pairs l.row)
