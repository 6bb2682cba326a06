use Rattle.ptree.proofs.output.indent.Indent.is_readable.Goals.{then-is_one_line, else-is_one_line}
use Rattle.ptree.proofs.output.indent.Indent.is_readable.Goals as goal

pub returns-then-has_kinds_apart : goal.returns-then-has_kinds_apart
returns-then-has_kinds_apart c = (
  λ yes.
      let pairs = c.has_pairs_apart.ensures.0 yes in
      elim c.if-is_one_line.branch [
        | then-is_one_line w ↦ record {
          no_line_feed = c.is_one_line.ensures.0 w.if-is_one_line.true;
          turning_passing = w.has_kinds_apart.ensures.0 (let on = c.if-has_kinds_apart.true in cc (w.value-is));
          turnings = pairs.0;
          passings = pairs.1;
        }
        | else-is_one_line w ↦ absurd (let on = c.if-has_kinds_apart.true in cc (w.if-is_one_line.false))
      ],
  λ readable. c.has_pairs_apart.ensures.1 (readable.turnings, readable.passings),
)
