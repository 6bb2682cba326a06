use Rattle.trees.proofs.Common.{◌∙◌, sym, IfErr-weaker, IfOk-weaker, ⊤}
use Rattle.trees.specs.Depending.{HoldsNone, IsPairFile}
use Rattle.trees.specs.DependingParts.{AreRead, AreWithin, HoldsWords}
use Rattle.trees.specs.Meaning.{HoldsNoPairs}
use Rattle.trees.specs.Reading.{FailsFor}
use Rattle.trees.proofs.Meanings.{lock_read, words_read}
use Rattle.trees.proofs.Readings.{fails_by_input, fails_weaker}
use Rattle.trees.proofs.Understood.{never_list, never_lock, never_other}
use Rattle.trees.proofs.deps.read.Goals as goal

pub returns-in_ok-wrong-clause-failed : goal.returns-in_ok-wrong-clause-failed
returns-in_ok-wrong-clause-failed c = fails_by_input (HoldsNoPairs c.args.source.now) ⊥ c.in_ok-wrong.field-0 c.in_ok-wrong.ensures.input (never_other c.args.source.now c.in-Some.ensures)

pub returns-then-is_lock : goal.returns-then-is_lock
returns-then-is_lock c =
    let source = c.args.source.now in
    let lock = sym c.is_lock.ensures ∙ c.if-is_lock.true in
    record {
      read = IfOk-weaker c.locked.result AreWithin (AreRead source) (λ p. lock_read source p (record { own = c.in_default.ensures; lock = lock })) c.locked.ensures.within;
      failed = IfErr-weaker c.locked.result (FailsFor ⊤ ⊥) (FailsFor (HoldsNoPairs source) ⊥) (λ e. fails_weaker ⊤ (HoldsNoPairs source) ⊥ e (λ _. never_lock source lock)) c.locked.ensures.failed;
    }

pub returns-in_ok-wrong-2-clause-failed : goal.returns-in_ok-wrong-2-clause-failed
returns-in_ok-wrong-2-clause-failed c = fails_by_input (HoldsNoPairs c.args.source.now) ⊥ c.in_ok-wrong-2.field-0 c.in_ok-wrong-2.ensures.input (never_list c.args.source.now (sym c.begins_as.ensures ∙ c.if-begins_as.true))

pub returns-else-begins_as : goal.returns-else-begins_as
returns-else-begins_as c =
    let source = c.args.source.now in
    let file : IsPairFile source = record { own = c.in_default.ensures; lock = sym c.is_lock.ensures ∙ c.if-is_lock.false; list = sym c.begins_as.ensures ∙ c.if-begins_as.false } in
    record {
      read = IfOk-weaker c.packages.result (HoldsWords source) (AreRead source) (λ p. words_read source p file) c.packages.ensures.held;
      failed = IfErr-weaker c.packages.result (FailsFor (HoldsNone source) ⊥) (FailsFor (HoldsNoPairs source) ⊥) (λ e. fails_weaker (HoldsNone source) (HoldsNoPairs source) ⊥ e (λ none _. none)) c.packages.ensures.failed;
    }
