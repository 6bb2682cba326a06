use Rattle.std.proofs.Common.{◌≡◌, ◌≢◌, ◌∙◌, ◌++◌, ℕ, false, List, Option, Some, None, sym}
use Rattle.std.specs.Borrow.{Bor}
use Rattle.std.specs.Prelude.{MatchOption}
use Rattle.ptree_trees.specs.Indented.{begins_blank}
use Rattle.ptree_trees.proofs.IndentedReading.{no_root}
use Rattle.ptree_trees.proofs.indented.root_text.Goals as goal

-- what is behind the bullet is the text of a root, in a line that isn't indented
behind : (r : Option (Bor (List ℕ))) (front line : List ℕ) → begins_blank line ≡ false → MatchOption r ((rest : List ℕ) → line ≢ front ++ rest) (λ t. line ≡ front ++ t.now)
    → MatchOption r ((t : List ℕ) → begins_blank (front ++ t) ≡ false → line ≢ front ++ t) (λ t. (begins_blank line ≡ false) × (line ≡ front ++ t.now))
behind None front line h never = λ t k. never t
behind (Some t) front line h is = (h, is)

pub returns-then-is_indented : goal.returns-then-is_indented
returns-then-is_indented c = no_root c.args.form.now c.args.line.now (sym c.is_indented.ensures ∙ c.if-is_indented.true)

pub returns : goal.returns
returns c = behind c.strip_front.result c.args.form.now.bullet.now c.args.line.now (sym c.is_indented.ensures ∙ c.if-is_indented.false) c.strip_front.ensures
