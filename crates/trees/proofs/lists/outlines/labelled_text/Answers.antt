use Rattle.std.proofs.Common.{◌≡◌, ◌++◌, ◌∷◌, ℕ, List, [], Option, map, sym, subst, string_bytes, rules, Bor}
use Rattle.trees.specs.Outlining.{text_of_lines, labelled_lines}
use Rattle.trees.proofs.OutlineTexts.{labelled_some}
use Rattle.trees.proofs.lists.outlines.labelled_text.Goals.{in-Some+in_ok-push_line-in-Some+in_ok-push_lines-in-Some, in-None+in_ok-push_lines-in-None}
use Rattle.trees.proofs.lists.outlines.labelled_text.Goals as goal

pub returns : goal.returns
returns c =
    let form = c.args.form.now in
    let lines = c.args.lines.now in
    let is : Option (Bor (List ℕ)) → Type 0 = λ label. string_bytes c.match-label.text ≡ text_of_lines (labelled_lines form label (map (λ (l : Bor (List ℕ)). l.now) lines)) in
    elim c.match-label.branch [
      | in-Some+in_ok-push_line-in-Some+in_ok-push_lines-in-Some w ↦
          let none : string_bytes c.new-text.result ≡ [] = search rules in
          let first : string_bytes w.push_line.new.text ≡ string_bytes c.new-text.result ++ ((form.bullet.now ++ w.in-Some.label.now) ++ 10 ∷ []) = search rules in
          let rest : string_bytes c.match-label.text ≡ string_bytes w.push_line.new.text ++ text_of_lines (map (λ (l : Bor (List ℕ)). form.unit.now ++ l.now) lines) = search rules in
          subst is (sym w.in-Some.is) (labelled_some form w.in-Some.label lines (string_bytes c.new-text.result) (string_bytes w.push_line.new.text) (string_bytes c.match-label.text) none first rest)
      | in-None+in_ok-push_lines-in-None w ↦
          let all : string_bytes c.match-label.text ≡ text_of_lines (map (λ (l : Bor (List ℕ)). l.now) lines) = search rules in
          subst is (sym w.in-None.is) all
    ]
