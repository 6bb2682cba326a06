use Rattle.std.proofs.Common.{Some, ◌≡◌, ◌≤◌, ℕ, true, false, ◌++◌, List, ◌+◌, ◌*◌, ◌<◌, length, map, take}
use Rattle.ptree.specs.Graph.{weights_of, edges_of, neighbors_of}
use Rattle.ptree.specs.GraphLinks.{newest_from}
use Rattle.ptree.specs.Growing.{flags_of, grow, row_occurrences, row_seen, kids_grown, kids_seen}
use Rattle.ptree.specs.Line.{line_bytes}
use Rattle.ptree.specs.Looks.{look_of, own_text}
use Rattle.ptree.specs.Entries.{entries_below}
use Rattle.ptree.specs.Occurrence.{occurrence_shape}
use Rattle.ptree.specs.Style.{start_codes}
use Rattle.ptree.specs.declared.sink.DrawError.TheVariants.{Memory}
use Rattle.ptree.proofs.Drawing.Engine.{AreBegun}
use Rattle.ptree.proofs.graph.row.+draw_row.Given as goal

-- a row takes a step more than each of its nodes
abbrev pub decreases-draw_row : goal.decreases-draw_row
decreases-draw_row g l = 2 * l.levels_left + 1

abbrev pub decreases-draw_node : goal.decreases-draw_node
decreases-draw_node g l = 2 * l.levels_left

-- the entries so far, and the neighbours that are left
abbrev pub invariant-draw_row-loop-number : goal.invariant-draw_row-loop-number
invariant-draw_row-loop-number g l =
    let graph = l.marked.graph.now in
    let below = neighbors_of (edges_of graph) in
    let one = grow below l.levels_left in
    let left = neighbors_of (take l.number (edges_of graph)) l.fn.node.0 in
    let look = look_of l.brush.look in
    let shape = occurrence_shape g.N.Label.text graph l.marked.mark.now in
    record {
      begun : (outer : List ℕ) → line_bytes l.fn.pen.line ≡ start_codes look.branch ++ outer
          → AreBegun look (entries_below look l.levels_left) outer (map shape (kids_grown below l.levels_left (flags_of graph l.fn.seen.items) l.fn.node.0))
          (map shape (row_occurrences one (flags_of graph l.seen.items) left)) (g.W.Sink.contents l.fn.f) (g.W.Sink.contents l.f);
      no_fault : g.W.Sink.faults l.f ≡ g.W.Sink.faults l.fn.f;
      error : l.pen.error ≡ Memory;
      kept : take l.width (line_bytes l.pen.line) ≡ line_bytes l.fn.pen.line;
      turned : l.pen.turned ≡ true → 0 < l.number → line_bytes l.pen.line ≡ take l.width (line_bytes l.pen.line) ++ own_text look (Some false);
      seen : row_seen one (flags_of graph l.seen.items) left ≡ kids_seen below l.levels_left (flags_of graph l.fn.seen.items) l.fn.node.0;
      length : length l.seen.items ≤ length (weights_of graph);
      newest : l.number ≡ newest_from (take l.number (edges_of graph)) l.fn.node.0;
    }

abbrev pub decreases-draw_row-loop-number : goal.decreases-draw_row-loop-number
decreases-draw_row-loop-number g l = l.number
