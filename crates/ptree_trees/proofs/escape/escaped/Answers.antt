use Rattle.std.proofs.Common.{◌≡◌, ◌≢◌, ◌≤◌, ℕ, List, All, IsUtf8, flat_map, string_bytes, sym, ap, ◌∙◌, map-id, subst}
use Rattle.std.proofs.lemmas.Result.{IfOk-weaker}
use Rattle.std.specs.Str.{encode_utf8_all, NoCharPasses}
use Rattle.std.proofs.lemmas.Iterator.{YieldsList-from_chars}
use Rattle.std.proofs.lemmas.Iterator.Consumers.{YieldsList-end}
use Rattle.ptree_trees.specs.Escape.{escape_char, is_hidden, escaped_text}
use Rattle.ptree_trees.proofs.Escapes.{same_texts, text_shown, bytes_shown, char_pushed}
use Rattle.ptree_trees.proofs.escape.escaped.Goals as goal
use Rattle.ptree_trees.proofs.escape.escaped.Goals.{In-None, After-from_str}

-- a text that has no escape is its own
own : (c : After-from_str) → escaped_text c.args.text.now ≡ c.args.text.now
own c = c.needs_escape.ensures.0 c.if-not-needs_escape.true

pub returns-then-not-needs_escape-clause-shown : goal.returns-then-not-needs_escape-clause-shown
returns-then-not-needs_escape-clause-shown c =
    IfOk-weaker c.from_str.result (λ s. string_bytes s ≡ c.args.text.now) _ (λ s e. subst (NoCharPasses is_hidden) (own c ∙ sym e) (text_shown c.args.text.now)) c.from_str.ensures.ok

pub returns-then-not-needs_escape-clause-bytes : goal.returns-then-not-needs_escape-clause-bytes
returns-then-not-needs_escape-clause-bytes c =
    IfOk-weaker c.from_str.result (λ s. string_bytes s ≡ c.args.text.now) (λ s. All (λ b. (32 ≤ b) × (b ≢ 127)) (string_bytes s))
    (λ s e. bytes_shown (string_bytes s) (subst (NoCharPasses is_hidden) (own c ∙ sym e) (text_shown c.args.text.now))) c.from_str.ensures.ok

pub returns-then-not-needs_escape-clause-apart : goal.returns-then-not-needs_escape-clause-apart
returns-then-not-needs_escape-clause-apart c =
    IfOk-weaker c.from_str.result (λ s. string_bytes s ≡ c.args.text.now) (λ s. (other : List ℕ) → IsUtf8 other → escaped_text other ≡ string_bytes s → other ≡ c.args.text.now)
    (λ s e other u is. same_texts other c.args.text.now u c.utf8.text (is ∙ (e ∙ sym (own c)))) c.from_str.ensures.ok

pub loop-c-preserved : goal.loop-c-preserved
loop-c-preserved c = char_pushed escape_char c.loop-c.yielded c.in-Some.c (string_bytes c.loop-c.out) (string_bytes c.push_escaped.new.out) c.loop-c.invariant c.in_ok-push_escaped.ensures

whole : (c : In-None) → string_bytes c.loop-c.out ≡ escaped_text c.args.text.now
whole c =
    let end = YieldsList-end (YieldsList-from_chars c.args.text.now c.utf8.text cc) c.loop-c.yielded _ c.loop-c.yielded_by _ _ c.in-None.is c.next.ensures.steps in
    c.loop-c.invariant ∙ ap (λ cs. encode_utf8_all (flat_map escape_char cs)) (sym (map-id c.loop-c.yielded) ∙ end.0)

pub returns-clause-text : goal.returns-clause-text
returns-clause-text c = whole c

pub returns-clause-shown : goal.returns-clause-shown
returns-clause-shown c = subst (NoCharPasses is_hidden) (sym (whole c)) (text_shown c.args.text.now)

pub returns-clause-bytes : goal.returns-clause-bytes
returns-clause-bytes c = bytes_shown (string_bytes c.loop-c.out) (subst (NoCharPasses is_hidden) (sym (whole c)) (text_shown c.args.text.now))

pub returns-clause-apart : goal.returns-clause-apart
returns-clause-apart c = λ other u e. same_texts other c.args.text.now u c.utf8.text (e ∙ whole c)
