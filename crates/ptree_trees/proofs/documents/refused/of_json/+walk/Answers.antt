use Rattle.std.proofs.Common.{rules, ◌≡◌, ◌∙◌, refl, ap, sym, subst, map, reverse, Some, None, option_map, IfOk, string_bytes}
use Rattle.serde_json.specs.Data as j
use Rattle.serde_json.specs.View.{view, items_view, members_view, number_view}
use Rattle.serde_json.specs.declared.value.Value.{the_lemmas}
use Rattle.ptree_trees.specs.RefusedPath.{step_of, json_at_step, IsFloat, IsFirstFloat}
use Rattle.ptree_trees.specs.RefusedWalk.{path_found}
use Rattle.ptree_trees.proofs.RefusedLoops.{element_passed, element_found, elements_passed, member_passed, member_found, members_passed}
use Rattle.ptree_trees.proofs.RefusedPaths.{none_in_leaf, first_of_kind}
use Rattle.ptree_trees.proofs.RefusedSteps.{first_in_json_list, first_in_json_members, float_here, no_float_here}
use Rattle.ptree_trees.proofs.documents.refused.of_json.+walk.Goals as goal

pub float_path-returns-in-Null : goal.float_path-returns-in-Null
float_path-returns-in-Null t c = none_in_leaf json_at_step IsFloat (view c.args.value.now) j.null (search (rules, the_lemmas)) (λ is. is) (λ k. refl) (λ n. refl)

pub float_path-returns-in-Bool : goal.float_path-returns-in-Bool
float_path-returns-in-Bool t c = none_in_leaf json_at_step IsFloat (view c.args.value.now) (j.boolean c.in-Bool.field-0) (search (rules, the_lemmas)) (λ is. is) (λ k. refl) (λ n. refl)

pub float_path-returns-in-String : goal.float_path-returns-in-String
float_path-returns-in-String t c = none_in_leaf json_at_step IsFloat (view c.args.value.now) (j.string (string_bytes c.in-String.field-0)) (search (rules, the_lemmas)) (λ is. is) (λ k. refl) (λ n. refl)

pub float_path-returns-then-is_f64 : goal.float_path-returns-then-is_f64
float_path-returns-then-is_f64 t c =
    let n = number_view c.in-Number.n in
    first_of_kind json_at_step IsFloat (view c.args.value.now) (j.number n) _ (search (rules, the_lemmas)) (ap (λ z. map step_of (reverse z)) c.new.ensures.items) (float_here n (sym c.is_f64.ensures ∙ c.if-is_f64.true)) (λ k. refl) (λ n. refl)

pub float_path-returns-else-is_f64 : goal.float_path-returns-else-is_f64
float_path-returns-else-is_f64 t c =
    let n = number_view c.in-Number.n in
    none_in_leaf json_at_step IsFloat (view c.args.value.now) (j.number n) (search (rules, the_lemmas)) (no_float_here n (sym c.is_f64.ensures ∙ c.if-is_f64.false)) (λ k. refl) (λ n. refl)

pub float_path-returns-in-Array : goal.float_path-returns-in-Array
float_path-returns-in-Array t c =
    let e : j.array (items_view c.in-Array.items.items) ≡ view c.args.value.now = search (rules, the_lemmas) in
    subst (λ d. IfOk c.element_path.result (λ found. IsFirstFloat d (option_map path_found found))) e c.element_path.ensures

pub float_path-returns-in-Object : goal.float_path-returns-in-Object
float_path-returns-in-Object t c =
    let e : j.object (members_view c.in-Object.members.entries) ≡ view c.args.value.now = search (rules, the_lemmas) in
    subst (λ d. IfOk c.member_path.result (λ found. IsFirstFloat d (option_map path_found found))) e c.member_path.ensures

pub element_path-returns-in-Some : goal.element_path-returns-in-Some
element_path-returns-in-Some t c =
    let found = subst (λ o. IsFirstFloat (view c.item-item.result) (option_map path_found o)) c.in-Some.is c.in_ok-found.ensures in
    first_in_json_list c.deref-item-items.result.now _ (Some (path_found c.push.new.self)) c.deref-item-items.ensures.value
    (element_found json_at_step IsFloat view _ c.loop-i.i c.item-item.result c.in-Some.found c.push.new.self c.loop-i-test.true c.item-item.is c.loop-i.invariant found (search rules))

pub element_path-loop-i-preserved : goal.element_path-loop-i-preserved
element_path-loop-i-preserved t c =
    element_passed json_at_step IsFloat view _ c.loop-i.i c.item-item.result c.loop-i-test.true c.item-item.is c.loop-i.invariant (rw c.in_default.is at c.in_ok-found.ensures)

pub element_path-returns : goal.element_path-returns
element_path-returns t c =
    first_in_json_list c.deref-item-items.result.now _ None c.deref-item-items.ensures.value (elements_passed json_at_step IsFloat view _ c.loop-i.i c.loop-i-test.false c.loop-i.invariant)

pub member_path-returns-in-Some-2 : goal.member_path-returns-in-Some-2
member_path-returns-in-Some-2 t c =
    let found = subst (λ o. IsFirstFloat (view c.in-Some.member.now) (option_map path_found o)) c.in-Some-2.is c.in_ok-found.ensures in
    first_in_json_members c.args.members.now.entries (Some (path_found c.push.new.self)) c.iter-key-items.ensures.ordered
    (member_found json_at_step IsFloat view _ c.loop-key.key-iterator c.next.new.self c.in-Some.key.now c.in_ok-key.key c.in-Some.member.now c.in-Some-2.found c.push.new.self c.in-Some.ensures.steps c.loop-key.invariant.2 found (search rules) (search rules))

pub member_path-loop-key-preserved : goal.member_path-loop-key-preserved
member_path-loop-key-preserved t c =
    (tt, tt, member_passed json_at_step IsFloat view _ c.loop-key.key-iterator c.next.new.self c.in-Some.key.now c.in-Some.member.now c.in-Some.ensures.steps c.loop-key.invariant.2 (rw c.in_default.is at c.in_ok-found.ensures))

pub member_path-returns : goal.member_path-returns
member_path-returns t c =
    first_in_json_members c.args.members.now.entries None c.iter-key-items.ensures.ordered (members_passed json_at_step IsFloat view _ c.loop-key.key-iterator c.in-None.ensures.steps.0 c.loop-key.invariant.2)
