use Rattle.std.proofs.Common.{string_bytes}
use Rattle.examples.proofs.reading.drawn_anew_by_lines.Goals as goal

pub returns : goal.returns
returns c = c.in_ok-tree.ensures.redrawn (string_bytes c.in_ok-drawing.field-0) c.in_ok-drawing.ensures
