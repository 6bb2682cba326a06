use Rattle.std.proofs.Common.{◌≡◌, ◌++◌, List, ℕ, codes, string_bytes, rules, ap, subst, decimal, OnOk}
use Rattle.trees.proofs.perform.reports.push_count.Goals as goal

pub returns : goal.returns
returns c =
    let line : List ℕ → List ℕ = λ word. string_bytes c.args.source.now.name ++ (codes ": a drawing of " ++ (decimal c.args.n ++ (codes " " ++ (word ++ codes "\n")))) in
    let bytes : OnOk c.writeln.result (string_bytes c.writeln.new.self ≡ string_bytes c.args.said.now ++ line c.item_word-items.result.now) = search rules in
    subst (λ said. OnOk c.writeln.result (string_bytes c.writeln.new.self ≡ string_bytes c.args.said.now ++ said)) (ap line c.item_word-items.ensures) bytes
