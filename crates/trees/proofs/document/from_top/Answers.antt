use Rattle.std.proofs.Common.{◌≡◌, true, rules}
use Rattle.trees.specs.Documents.{path_text}
use Rattle.trees.proofs.RefusedTexts.{behind_stop, no_stop}
use Rattle.trees.proofs.document.from_top.Goals as goal

pub returns-in-Some : goal.returns-in-Some
returns-in-Some c = λ path is. let keys : c.in-Some.keys.now ≡ path_text true path = behind_stop c.args.steps.now c.in-Some.keys.now c.in-Some.ensures path is in search (rules, keys)

pub returns-in-None : goal.returns-in-None
returns-in-None c = no_stop c.args.steps.now c.in-None.ensures
