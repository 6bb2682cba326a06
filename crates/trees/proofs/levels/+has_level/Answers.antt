use Rattle.trees.proofs.Common.{◌≡◌, [], ◌∷◌, ◌-◌, ◌⊎◌, inl, inr, refl, sym, ◌∙◌, ap, subst, Any, arith, false≢true}
use Rattle.ptree.specs.Occurrence.{occurrence_kids, first_tree, trees_in}
use Rattle.ptree.proofs.Graphs.Places.{trees_none}
use Rattle.trees.specs.Levels.{HasLevel}
use Rattle.trees.proofs.LevelSteps.{tree_level, any_tree, rest_behind}
use Rattle.trees.proofs.levels.+has_level.Goals as goal
use Rattle.trees.proofs.levels.+has_level.Goals.{then-level-eq0-via-then-level-eq0, then-level-eq0-via-else-level-eq0+then-has_level}

pub returns-then-level-eq0 : goal.returns-then-level-eq0
returns-then-level-eq0 t c =
    let level = c.args.level in
    let Is = HasLevel occurrence_kids level in
    let p = c.in-Some.place.now in
    let after = c.in-Some.after.now in
    let b = c.below-below.result in
    let all = any_tree Is c.loop-left.left b _ p c.loop-left.rest.now after _ (omega arith) c.in-Some.ensures.cases.0 c.below-below.ensures refl refl in
    let here : (level ≡ 0) ⊎ Any (HasLevel occurrence_kids (level - 1)) (trees_in b after) = elim c.then-level-eq0.branch [
      | then-level-eq0-via-then-level-eq0 w ↦ inl w.if-level-eq0.true
      | then-level-eq0-via-else-level-eq0+then-has_level w ↦ inr (w.has_level.ensures.0 w.if-has_level.true)
    ] in
    (λ _. c.loop-left.invariant.1 (all.1 (inl ((tree_level level b p after c.below-below.ensures).1 here))), λ _. refl)

pub loop-left-preserved : goal.loop-left-preserved
loop-left-preserved t c =
    let level = c.args.level in
    let Is = HasLevel occurrence_kids level in
    let p = c.in-Some.place.now in
    let after = c.in-Some.after.now in
    let b = c.below-below.result in
    let behind = rest_behind b c.min.result after c.min.ensures in
    let left = c.saturating_sub-left.result in
    let all = any_tree Is c.loop-left.left b left p c.loop-left.rest.now after _ (omega arith) c.in-Some.ensures.cases.0 c.below-below.ensures c.saturating_sub-left.ensures behind in
    let first : Is (first_tree (p ∷ after)) → ⊥ = λ has. elim ((tree_level level b p after c.below-below.ensures).0 has) [
      | inl here ↦ c.if-level-eq0.false here
      | inr below ↦ absurd (false≢true (sym c.if-has_level.false ∙ c.has_level.ensures.1 below))
    ] in (
      λ has. elim (all.0 (c.loop-left.invariant.0 has)) [ inl here ↦ absurd (first here) | inr later ↦ later ],
      λ later. c.loop-left.invariant.1 (all.1 (inr later)),
    )

pub returns : goal.returns
returns t c =
    let ended : c.loop-left.left ≡ 0 = omega (arith, c.loop-left-test.false) in
    let none : trees_in c.loop-left.left c.loop-left.rest.now ≡ [] = ap (λ n. trees_in n c.loop-left.rest.now) ended ∙ trees_none c.loop-left.rest.now in (
      λ e. absurd (false≢true e),
      λ has. let (k, x, low, is, holds) = subst (Any (HasLevel occurrence_kids c.args.level)) none (c.loop-left.invariant.0 has) in absurd (omega (arith, low)),
    )
