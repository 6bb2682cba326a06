use Rattle.trees.proofs.Common.{◌≡◌, ◌∙◌, ◌||◌, List, ℕ, Bool, None, codes, sym, ap, rules, MatchBool, contains_text, has_part, part_test}
use Rattle.std.specs.Str.Pattern.{FindsText, HasMatch}
use Rattle.trees.specs.Depending.{source_text}
use Rattle.trees.proofs.deps.forms.has_tables.Goals as goal

-- `contains` at a text
part_is : (part text shown : List ℕ) (r : Bool) → shown ≡ text → MatchBool r (HasMatch (FindsText part) shown) (FindsText part shown None) → r ≡ has_part part text
part_is part text shown r same has = part_test part text shown r same (contains_text r part shown has)

pub returns-then-contains : goal.returns-then-contains
returns-then-contains c =
    let text = source_text c.args.source.now in
    let first : c.contains.result ≡ has_part (codes "[[package]]") text = search (rules, part_is) in
    c.if-contains.true ∙ ap (λ (b : Bool). b || has_part (codes "package = []") text) (sym c.if-contains.true ∙ first)

pub returns-else-contains : goal.returns-else-contains
returns-else-contains c =
    let text = source_text c.args.source.now in
    let first : c.contains.result ≡ has_part (codes "[[package]]") text = search (rules, part_is) in
    let second : c.contains-else-contains.result ≡ has_part (codes "package = []") text = search (rules, part_is) in
    second ∙ ap (λ (b : Bool). b || has_part (codes "package = []") text) (sym c.if-contains.false ∙ first)
