use Rattle.trees.proofs.Common.{◌≡◌, None, Some, arith, line_count}
use Rattle.ptree.proofs.Reading.FirstLines.{count_none}
use Rattle.trees.proofs.drawings.split_line.Goals as goal
use Rattle.ptree_trees.proofs.IndentedTexts.{split_is}

pub returns-in-Some : goal.returns-in-Some
returns-in-Some c = split_is c.args.text.now (Some (c.in-Some.line, c.in-Some.rest)) c.in-Some.ensures.cases

pub returns-in-None : goal.returns-in-None
returns-in-None c =
    let none : line_count c.args.text.now ≡ 0 = count_none c.args.text.now (split_is c.args.text.now None c.in-None.ensures.cases) in
    absurd (omega (arith, none, c.requires))
