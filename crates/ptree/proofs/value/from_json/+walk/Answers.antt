use Rattle.std.proofs.Common.{sym, refl, subst}
use Rattle.serde_json.specs.View.{view, members_view}
use Rattle.ptree.specs.Convert.{json_data, json_entries}
use Rattle.ptree.specs.Data.{ValuesAscend}
use Rattle.ptree.proofs.Values.Converted.{entries_ascend}
use Rattle.ptree.proofs.value.from_json.+walk.Goals as goal

pub members_have_float-returns-clause-keys : goal.members_have_float-returns-clause-keys
members_have_float-returns-clause-keys t c =
    let values = c.loop-member.invariant.3 (subst (λ ms. ValuesAscend (json_entries (members_view ms))) (sym c.in-None.ensures.steps.0) tt) in
    λ none. (entries_ascend (λ v. json_data (view v)) (λ ms. json_entries (members_view ms)) refl (λ m ms. refl) c.args.members.now.entries c.iter-member-items.ensures.ordered, values)
