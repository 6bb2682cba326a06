use Rattle.std.proofs.Common.{◌≡◌, ◌∙◌, ap, refl, map}
use Rattle.std.proofs.lemmas.List.{take_all}
use Rattle.serde_json.specs.View.{view, items_view, members_view}
use Rattle.ptree.specs.Convert.{json_data, json_items, json_entries}
use Rattle.ptree.specs.Data.{string}
use Rattle.ptree.specs.Value.{data_of, entry_of, items_from, entries_from}
use Rattle.ptree.proofs.Values.Converted.{member_data, made_more, all_made, items_made, entries_made}
use Rattle.ptree.proofs.value.from_json.+convert.Goals as goal

pub convert_values-returns : goal.convert_values-returns
convert_values-returns t c =
    let all : map data_of c.loop-item.values.items ≡ map (λ v. json_data (view v)) c.args.items.now.items =
    c.loop-item.invariant ∙ ap (map (λ v. json_data (view v))) (take_all c.loop-item.item-index c.deref-item-items.result.now c.loop-item-test.false ∙ c.deref-item-items.ensures.value) in
    ap items_from all ∙ items_made (λ v. json_data (view v)) (λ vs. json_items (items_view vs)) refl (λ v vs. refl) c.args.items.now.items

pub convert_entries-loop-key-preserved : goal.convert_entries-loop-key-preserved
convert_entries-loop-key-preserved t c =
    let l = c.loop-key in
    let left = c.next.new.self in
    let value = c.in_ok-convert_value.field-0 in
    let made = made_more (member_data (λ v. json_data (view v))) c.args.members.now.entries l.key-iterator left (c.in-Some.key.now, c.in-Some.member.now)
    (map entry_of l.entries.items) (map entry_of c.push_entry.new.entries.items) (string c.as_str.result.now, data_of value)
    l.invariant.2 c.in-Some.ensures.steps (ap (λ d. (string c.as_str.result.now, d)) c.in_ok-convert_value.ensures ∙ ap (λ k. (string k, json_data (view c.in-Some.member.now))) c.as_str.ensures.value) c.in_ok-push_entry.ensures in
    (tt, tt, made)

pub convert_entries-returns : goal.convert_entries-returns
convert_entries-returns t c =
    ap entries_from (all_made _ _ _ _ c.loop-key.invariant.2 c.in-None.ensures.steps.0) ∙ entries_made (λ v. json_data (view v)) (λ ms. json_entries (members_view ms)) refl (λ m ms. refl) c.args.members.now.entries
