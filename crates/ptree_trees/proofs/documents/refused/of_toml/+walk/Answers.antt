use Rattle.std.proofs.Common.{rules, ◌≡◌, refl, ap, subst, map, reverse, Some, None, option_map, IfOk, string_bytes}
use Rattle.toml.specs.Data as t
use Rattle.toml.specs.View.{view, items_view, members_view}
use Rattle.toml.specs.declared.value.Value.{the_lemmas}
use Rattle.ptree_trees.specs.RefusedPath.{step_of, toml_at_step, IsFloatOrDate, IsFirstFloatOrDate}
use Rattle.ptree_trees.specs.RefusedWalk.{path_found}
use Rattle.ptree_trees.proofs.RefusedLoops.{element_passed, element_found, elements_passed, member_passed, member_found, members_passed}
use Rattle.ptree_trees.proofs.RefusedPaths.{none_in_leaf, first_of_kind}
use Rattle.ptree_trees.proofs.RefusedSteps.{first_in_toml_list, first_in_toml_members}
use Rattle.ptree_trees.proofs.documents.refused.of_toml.+walk.Goals as goal

pub fault_path-returns-in-String : goal.fault_path-returns-in-String
fault_path-returns-in-String n c = none_in_leaf toml_at_step IsFloatOrDate (view c.args.value.now) (t.string (string_bytes c.in-String.field-0)) (search (rules, the_lemmas)) (λ is. is) (λ k. refl) (λ n. refl)

pub fault_path-returns-in-Integer : goal.fault_path-returns-in-Integer
fault_path-returns-in-Integer n c = none_in_leaf toml_at_step IsFloatOrDate (view c.args.value.now) (t.integer c.in-Integer.field-0) (search (rules, the_lemmas)) (λ is. is) (λ k. refl) (λ n. refl)

pub fault_path-returns-in-Boolean : goal.fault_path-returns-in-Boolean
fault_path-returns-in-Boolean n c = none_in_leaf toml_at_step IsFloatOrDate (view c.args.value.now) (t.boolean c.in-Boolean.field-0) (search (rules, the_lemmas)) (λ is. is) (λ k. refl) (λ n. refl)

pub fault_path-returns-in-Float : goal.fault_path-returns-in-Float
fault_path-returns-in-Float n c = first_of_kind toml_at_step IsFloatOrDate (view c.args.value.now) (t.float c.in-Float.field-0) _ (search (rules, the_lemmas)) (ap (λ z. map step_of (reverse z)) c.new.ensures.items) tt (λ k. refl) (λ n. refl)

pub fault_path-returns-in-Datetime : goal.fault_path-returns-in-Datetime
fault_path-returns-in-Datetime n c = first_of_kind toml_at_step IsFloatOrDate (view c.args.value.now) (t.datetime c.in-Datetime.field-0) _ (search (rules, the_lemmas)) (ap (λ z. map step_of (reverse z)) c.new-in-Datetime.ensures.items) tt (λ k. refl) (λ n. refl)

pub fault_path-returns-in-Array : goal.fault_path-returns-in-Array
fault_path-returns-in-Array n c =
    let e : t.array (items_view c.in-Array.items.items) ≡ view c.args.value.now = search (rules, the_lemmas) in
    subst (λ d. IfOk c.element_path.result (λ found. IsFirstFloatOrDate d (option_map path_found found))) e c.element_path.ensures

pub fault_path-returns-in-Table : goal.fault_path-returns-in-Table
fault_path-returns-in-Table n c =
    let e : t.table (members_view c.in-Table.members.entries) ≡ view c.args.value.now = search (rules, the_lemmas) in
    subst (λ d. IfOk c.member_path.result (λ found. IsFirstFloatOrDate d (option_map path_found found))) e c.member_path.ensures

pub element_path-returns-in-Some : goal.element_path-returns-in-Some
element_path-returns-in-Some n c =
    let found = subst (λ o. IsFirstFloatOrDate (view c.item-item.result) (option_map path_found o)) c.in-Some.is c.in_ok-found.ensures in
    first_in_toml_list c.deref-item-items.result.now _ (Some (path_found c.push.new.self)) c.deref-item-items.ensures.value
    (element_found toml_at_step IsFloatOrDate view _ c.loop-i.i c.item-item.result c.in-Some.found c.push.new.self c.loop-i-test.true c.item-item.is c.loop-i.invariant found (search rules))

pub element_path-loop-i-preserved : goal.element_path-loop-i-preserved
element_path-loop-i-preserved n c =
    element_passed toml_at_step IsFloatOrDate view _ c.loop-i.i c.item-item.result c.loop-i-test.true c.item-item.is c.loop-i.invariant (rw c.in_default.is at c.in_ok-found.ensures)

pub element_path-returns : goal.element_path-returns
element_path-returns n c =
    first_in_toml_list c.deref-item-items.result.now _ None c.deref-item-items.ensures.value (elements_passed toml_at_step IsFloatOrDate view _ c.loop-i.i c.loop-i-test.false c.loop-i.invariant)

pub member_path-returns-in-Some-2 : goal.member_path-returns-in-Some-2
member_path-returns-in-Some-2 n c =
    let found = subst (λ o. IsFirstFloatOrDate (view c.in-Some.member.now) (option_map path_found o)) c.in-Some-2.is c.in_ok-found.ensures in
    first_in_toml_members c.args.members.now.entries (Some (path_found c.push.new.self)) c.iter-key-items.ensures.ordered
    (member_found toml_at_step IsFloatOrDate view _ c.loop-key.key-iterator c.next.new.self c.in-Some.key.now c.in_ok-key.key c.in-Some.member.now c.in-Some-2.found c.push.new.self c.in-Some.ensures.steps c.loop-key.invariant.2 found (search rules) (search rules))

pub member_path-loop-key-preserved : goal.member_path-loop-key-preserved
member_path-loop-key-preserved n c =
    (tt, tt, member_passed toml_at_step IsFloatOrDate view _ c.loop-key.key-iterator c.next.new.self c.in-Some.key.now c.in-Some.member.now c.in-Some.ensures.steps c.loop-key.invariant.2 (rw c.in_default.is at c.in_ok-found.ensures))

pub member_path-returns : goal.member_path-returns
member_path-returns n c =
    first_in_toml_members c.args.members.now.entries None c.iter-key-items.ensures.ordered (members_passed toml_at_step IsFloatOrDate view _ c.loop-key.key-iterator c.in-None.ensures.steps.0 c.loop-key.invariant.2)
