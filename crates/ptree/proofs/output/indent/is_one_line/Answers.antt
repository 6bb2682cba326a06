use Rattle.std.proofs.Common.{lit<}
use Rattle.std.proofs.lemmas.Str.Pattern.{contains_char}
use Rattle.ptree.proofs.Pieces.PieceTests.{no_line_feed_test}
use Rattle.ptree.proofs.output.indent.is_one_line.Goals as goal

pub returns : goal.returns
returns c = no_line_feed_test c.args.text.now c.contains.result (contains_char 10 c.args.text.now c.contains.result c.contains.ensures.cases (lit< tt))
