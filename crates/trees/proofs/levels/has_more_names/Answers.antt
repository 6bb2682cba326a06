use Rattle.trees.proofs.Common.{◌∙◌, ℕ, List, lit<, ap, rules, Bor, is_some, slice_get, YieldsList-from_str_split, names}
use Rattle.std.proofs.lemmas.Iterator.Consumers.{nth_from_yields_List}
use Rattle.trees.proofs.PathNames.{few_names, split_names, name_at, there_if_read}
use Rattle.trees.proofs.levels.has_more_names.Goals as goal

pub returns-then-path : goal.returns-then-path
returns-then-path c = few_names c.args.path.now (search rules)

pub returns : goal.returns
returns c =
    let at = nth_from_yields_List c.nth.result _ 5000 c.nth.ensures.ran (YieldsList-from_str_split 47 c.args.path.now (lit< tt) c.split.ensures.text c.split.ensures.has_more c.split.ensures.pattern) in
    c.is_some.ensures ∙ (there_if_read (λ (x : Bor (List ℕ)). x.now) c.nth.result ∙ (ap is_some at ∙ (ap (λ (ns : List (List ℕ)). is_some (slice_get ns 5000)) (split_names c.args.path.now) ∙ name_at (names 47 c.args.path.now) 5000)))
