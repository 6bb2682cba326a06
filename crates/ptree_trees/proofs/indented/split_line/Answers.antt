use Rattle.ptree_trees.proofs.IndentedTexts.{split_is}
use Rattle.ptree_trees.proofs.indented.split_line.Goals as goal

pub returns : goal.returns
returns c = split_is c.args.text.now c.split_once.result c.split_once.ensures.cases
