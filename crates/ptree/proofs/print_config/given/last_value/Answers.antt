use Rattle.std.proofs.Common.{◌≡◌, ◌∙◌, ap, sym, string_bytes, true, false}
use Rattle.std.specs.Iterator.Adapters.{rev_source}
use Rattle.std.specs.Slice.Iter.{iter_rest}
use Rattle.ptree.specs.Characters.{is_spelled}
use Rattle.ptree.specs.Sources.{variables_of, last_value}
use Rattle.ptree.proofs.Config.LastVariables.{last_value-here, last_value-before, last_value-none}
use Rattle.ptree.proofs.print_config.given.last_value.Goals as goal

pub loop-variable-init : goal.loop-variable-init
loop-variable-init c =
    let all : iter_rest (rev_source c.into_iter-variable-iterator.result) ≡ c.args.variables.now =
    ap (λ z. iter_rest (rev_source z)) c.into_iter-variable-iterator.ensures.into_iter_gives ∙ (ap iter_rest c.rev-variable-items.ensures.source ∙ c.iter.ensures.rest) in
    (tt, tt, ap (λ vs. last_value c.args.spelling c.args.name.now (variables_of vs)) (sym all))

pub returns-then-is : goal.returns-then-is
returns-then-is c =
    let is : is_spelled c.args.spelling (string_bytes c.in-Some.variable.now.0) c.args.name.now ≡ true = cc in
    let here = last_value-here c.args.spelling c.args.name.now _ _ c.in-Some.variable.now c.in-Some.ensures.steps is in
    let so_far = c.loop-variable.invariant.2 in
    cc

pub loop-variable-preserved : goal.loop-variable-preserved
loop-variable-preserved c =
    let other : is_spelled c.args.spelling (string_bytes c.in-Some.variable.now.0) c.args.name.now ≡ false = cc in
    let before = last_value-before c.args.spelling c.args.name.now _ _ c.in-Some.variable.now c.in-Some.ensures.steps other in
    (tt, tt, c.loop-variable.invariant.2 ∙ before)

pub returns : goal.returns
returns c = sym (c.loop-variable.invariant.2 ∙ last_value-none c.args.spelling c.args.name.now _ c.in-None.ensures.steps.0)
