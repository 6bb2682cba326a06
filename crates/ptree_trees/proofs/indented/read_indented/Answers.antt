use Rattle.ptree_trees.proofs.IndentedResults.{reading_some, reading_back, reading_line, reading_end}
use Rattle.ptree_trees.proofs.indented.read_indented.Goals as goal

pub returns : goal.returns
returns c = record {
  some = reading_some c.args.form.now c.args.text.now c.read_lines.result c.read_lines.ensures;
  back = reading_back c.args.form.now c.requires.unit c.args.text.now c.read_lines.result c.read_lines.ensures;
  line = reading_line c.args.form.now c.args.text.now c.read_lines.result c.read_lines.ensures;
  end = reading_end c.args.form.now c.args.text.now c.read_lines.result c.read_lines.ensures;
}
