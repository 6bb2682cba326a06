use Rattle.std.proofs.Common.{◌∷◌, length, option_map, sym, ap, ◌∙◌, subst}
use Rattle.std.specs.Str.Pattern.{GetsRange}
use Rattle.ptree_trees.specs.CutName.{tail_names}
use Rattle.ptree_trees.proofs.CutPaths.{cut_names}
use Rattle.ptree_trees.proofs.paths.cut.CutPath.new.Goals as goal

pub returns-clause-names : goal.returns-clause-names
returns-clause-names c =
    let s = c.args.separator in
    let tail = c.get.result in
    let end = c.name_end.ensures in
    let got = subst (λ z. GetsRange z 1 (length z) tail) c.split_at.ensures.back c.get.ensures.cases in
    cut_names s c.args.path.now c.name_end.result tail c.requires c.utf8.path end.bound end.before end.found got ∙ ap (λ n. n ∷ tail_names s (option_map (λ t. t.now) tail)) (sym c.split_at.ensures.front)
