use Rattle.trees.proofs.Common.{◌∙◌, ℕ, List, ap, string_bytes, YieldsList-from_lines}
use Rattle.std.proofs.lemmas.Iterator.Consumers.{YieldsList-from_enumerate, YieldsList-turn, YieldsList-end}
use Rattle.trees.specs.Depending.{HoldsPairs}
use Rattle.trees.specs.Listing.{unmarked}
use Rattle.trees.specs.DependingParts.{found_words}
use Rattle.trees.proofs.Pairs.{found_more, found_same, wrong_line, passed_all}
use Rattle.trees.proofs.Readings.{fails_by_input}
use Rattle.trees.proofs.deps.pairs.line_pairs.Goals as goal

pub loop-i-preserved : goal.loop-i-preserved
loop-i-preserved c = found_same c.loop-i.found.items c.loop-i.yielded (c.in-Some.i, c.in-Some.line) c.loop-i.invariant (c.in-Ok-None.ensures.words ∙ ap found_words c.in-Ok-None.field-0-is)

pub loop-i-preserved-in_ok-push-in-Ok-Some : goal.loop-i-preserved-in_ok-push-in-Ok-Some
loop-i-preserved-in_ok-push-in-Ok-Some c =
    found_more c.loop-i.found.items c.loop-i.yielded (c.in-Some.i, c.in-Some.line) c.loop-i.invariant c.in-Ok-Some.words c.push.new.self.items c.in_ok-push-in-Ok-Some.ensures.items (c.in-Ok-Some.ensures.words ∙ ap found_words c.in-Ok-Some.field-0-is) c.in-Ok-Some.ensures.right

pub returns-in-Err-clause-failed : goal.returns-in-Err-clause-failed
returns-in-Err-clause-failed c =
    let text = unmarked (string_bytes c.args.source.now.text) in
    let e = ap (λ s. s.iter.rest.now) c.into_iter-i-iterator.ensures.into_iter_gives ∙ (ap (λ l. l.rest.now) c.enumerate-i-items.ensures.source ∙ (c.lines.ensures.rest ∙ c.unmarked.ensures)) in
    let none = ap (λ s. s.count) c.into_iter-i-iterator.ensures.into_iter_gives ∙ c.enumerate-i-items.ensures.count in
    let turn = YieldsList-turn (YieldsList-from_enumerate (YieldsList-from_lines text e) none) c.loop-i.yielded _ c.loop-i.yielded_by _ _ (c.in-Some.i, c.in-Some.line) c.in-Some.is c.next.ensures.steps in
    fails_by_input ((pairs : List (List ℕ × List ℕ)) → HoldsPairs c.args.source.now pairs → ⊥) ⊥ c.in_ok-wrong_at-in-Err.field-0 c.in_ok-wrong_at-in-Err.ensures.input
    (λ pairs is. wrong_line text pairs _ (c.in-Some.i, c.in-Some.line.now) turn.0 turn.1 c.in-Err.ensures.wrong is)

pub returns-clause-held : goal.returns-clause-held
returns-clause-held c =
    let text = unmarked (string_bytes c.args.source.now.text) in
    let e = ap (λ s. s.iter.rest.now) c.into_iter-i-iterator.ensures.into_iter_gives ∙ (ap (λ l. l.rest.now) c.enumerate-i-items.ensures.source ∙ (c.lines.ensures.rest ∙ c.unmarked.ensures)) in
    let none = ap (λ s. s.count) c.into_iter-i-iterator.ensures.into_iter_gives ∙ c.enumerate-i-items.ensures.count in
    let end = YieldsList-end (YieldsList-from_enumerate (YieldsList-from_lines text e) none) c.loop-i.yielded _ c.loop-i.yielded_by _ _ c.in-None.is c.next.ensures.steps in
    passed_all text c.loop-i.found.items c.loop-i.yielded end.0 c.loop-i.invariant
