use Rattle.std.proofs.Common.{◌≡◌, ◌<◌, true, false, ℕ, List, [], ◌∷◌, length, get_or, map, sym, ap, ◌∙◌, string_bytes, subst, arith, rules}
use Rattle.std.proofs.lemmas.List.{get_or_default}
use Rattle.std.specs.Prelude.{◌↔◌}
use Rattle.ptree.specs.Continuation.{IsFollowedBy, AreFlags}
use Rattle.ptree.specs.Drawing.{written_look}
use Rattle.examples.proofs.reading.can_follow.Goals as goal

pub returns : goal.returns
returns c =
    let line : List ℕ = c.args.line.now in
    let Is : List ℕ → Type 0 = IsFollowedBy (written_look c.args.config.now) c.args.config.now.depth c.args.text.now in
    let flags = c.in_ok-lines_that_follow.field-0.items in
    let same : c.in_ok-lines.lines.items ≡ c.deref.result.now = search rules in
    let text : string_bytes c.in_ok-from_str.field-0 ≡ line = search rules in
    let given : map string_bytes c.deref.result.now ≡ line ∷ [] = ap (map string_bytes) (sym same ∙ c.in_ok-lines.ensures.items) ∙ ap (λ z. z ∷ []) text in
    let set : AreFlags Is (line ∷ []) flags = subst (λ xs. AreFlags Is xs flags) given c.in_ok-lines_that_follow.ensures in
    let low : 0 < length flags = omega (arith, set.count) in
    let first : (get_or flags 0 false ≡ true) ↔ Is line = set.each 0 (omega arith) in
    let is : c.index.result.now ≡ get_or flags 0 false = c.index.ensures ∙ get_or_default flags 0 c.index.result.now false low in
    subst (λ b. (b ≡ true) ↔ Is line) (sym is) first
