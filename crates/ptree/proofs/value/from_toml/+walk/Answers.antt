use Rattle.std.proofs.Common.{sym, refl, subst}
use Rattle.toml.specs.View.{view, members_view}
use Rattle.ptree.specs.Convert.{toml_data, toml_entries}
use Rattle.ptree.specs.Data.{ValuesAscend}
use Rattle.ptree.proofs.Values.Converted.{entries_ascend}
use Rattle.ptree.proofs.value.from_toml.+walk.Goals as goal

pub fault_of_members-returns-clause-keys : goal.fault_of_members-returns-clause-keys
fault_of_members-returns-clause-keys t c =
    let values = c.loop-member.invariant.3 (subst (λ ms. ValuesAscend (toml_entries (members_view ms))) (sym c.in-None.ensures.steps.0) tt) in
    λ none. (entries_ascend (λ v. toml_data (view v)) (λ ms. toml_entries (members_view ms)) refl (λ m ms. refl) c.args.members.now.entries c.iter-member-items.ensures.ordered, values)
