use Rattle.trees.proofs.Common.{◌≡◌, ◌∙◌, ℕ, true, false, List, ◌∷◌, codes, ap, sym, rules, bytes_eq, chars, bytes_eq-Decides, encodes-chars}
use Rattle.trees.specs.DependingParts.{are_no_pair}
use Rattle.trees.proofs.LineWords.{comment_words, first_word, no_words, one_word, only_two, more_words, spelled_words}
use Rattle.trees.proofs.deps.pairs.pair.Goals as goal

pub returns-in_default-clause-words : goal.returns-in_default-clause-words
returns-in_default-clause-words c =
    no_words (chars c.args.line.now) _ (encodes-chars c.args.line.now c.utf8.line ∙ sym c.split_whitespace-words.ensures.rest) c.in_default.ensures.steps.1

pub returns-in_default-clause-right : goal.returns-in_default-clause-right
returns-in_default-clause-right c =
    ap are_no_pair (no_words (chars c.args.line.now) _ (encodes-chars c.args.line.now c.utf8.line ∙ sym c.split_whitespace-words.ensures.rest) c.in_default.ensures.steps.1)

pub returns-then-eq-clause-wrong : goal.returns-then-eq-clause-wrong
returns-then-eq-clause-wrong c =
    let rest = first_word (chars c.args.line.now) _ c.in-Some.first.now _ (encodes-chars c.args.line.now c.utf8.line ∙ sym c.split_whitespace-words.ensures.rest) c.in-Some.ensures.steps in
    let hash : bytes_eq c.in-Some.first.now (codes "#") ≡ true = search rules in
    ap are_no_pair (rest.2 ∙ ap (λ (w : List ℕ). w ∷ spelled_words rest.0) ((bytes_eq-Decides c.in-Some.first.now (codes "#")).0 hash)) ∙ comment_words (spelled_words rest.0)

pub returns-in_default-next-clause-wrong : goal.returns-in_default-next-clause-wrong
returns-in_default-next-clause-wrong c =
    ap are_no_pair (one_word (chars c.args.line.now) _ c.in-Some.first.now _ (encodes-chars c.args.line.now c.utf8.line ∙ sym c.split_whitespace-words.ensures.rest) c.in-Some.ensures.steps c.in_default-next.ensures.steps.1)

pub returns-in-None-clause-words : goal.returns-in-None-clause-words
returns-in-None-clause-words c =
    only_two (chars c.args.line.now) _ c.in-Some.first.now _ c.in-Some-next.second.now _ (encodes-chars c.args.line.now c.utf8.line ∙ sym c.split_whitespace-words.ensures.rest) c.in-Some.ensures.steps c.in-Some-next.ensures.steps c.in-None.ensures.steps.1

pub returns-in-None-clause-right : goal.returns-in-None-clause-right
returns-in-None-clause-right c =
    let words = only_two (chars c.args.line.now) _ c.in-Some.first.now _ c.in-Some-next.second.now _ (encodes-chars c.args.line.now c.utf8.line ∙ sym c.split_whitespace-words.ensures.rest) c.in-Some.ensures.steps c.in-Some-next.ensures.steps c.in-None.ensures.steps.1 in
    let other : bytes_eq c.in-Some.first.now (codes "#") ≡ false = search rules in
    ap are_no_pair words ∙ other

pub returns-in-Some-next-2-clause-wrong : goal.returns-in-Some-next-2-clause-wrong
returns-in-Some-next-2-clause-wrong c =
    more_words (chars c.args.line.now) _ c.in-Some.first.now _ c.in-Some-next.second.now _ c.in-Some-next-2.field-0.now _ (encodes-chars c.args.line.now c.utf8.line ∙ sym c.split_whitespace-words.ensures.rest) c.in-Some.ensures.steps c.in-Some-next.ensures.steps c.in-Some-next-2.ensures.steps
