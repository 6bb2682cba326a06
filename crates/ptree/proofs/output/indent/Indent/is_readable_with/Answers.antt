use Rattle.ptree.proofs.output.indent.Indent.is_readable_with.Goals.{then-is_readable, else-is_readable}
use Rattle.ptree.proofs.output.indent.Indent.is_readable_with.Goals as goal

pub returns-then-is_one_line : goal.returns-then-is_one_line
returns-then-is_one_line c = (
  λ yes.
      elim c.if-is_readable.branch [
        | then-is_readable w ↦ record {
          pieces = c.is_readable.ensures.0 w.if-is_readable.true;
          no_line_feed = w.is_one_line.ensures.0 (let on = c.if-is_one_line.true in cc (w.value-is));
          apart = c.is_marker_apart.ensures.0 yes;
        }
        | else-is_readable w ↦ absurd (let on = c.if-is_one_line.true in cc (w.value-is, w.if-is_readable.false))
      ],
  λ readable. c.is_marker_apart.ensures.1 readable.apart,
)
