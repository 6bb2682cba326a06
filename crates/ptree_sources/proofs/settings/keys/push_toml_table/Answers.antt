use Rattle.std.proofs.Common.{Some, ap, map}
use Rattle.toml.specs.View.{members_view}
use Rattle.ptree_sources.specs.Settings.{toml_keys, key_in}
use Rattle.ptree_sources.proofs.Keys.{one_added, all_added}
use Rattle.ptree_sources.proofs.settings.keys.push_toml_table.Goals as goal

pub loop-inner-preserved : goal.loop-inner-preserved
loop-inner-preserved c =
    (tt, tt, one_added _ _ _ _ _ _ _ _ c.loop-inner.invariant.2 (ap (λ ms. map (key_in (Some c.args.key.now)) (toml_keys (members_view ms))) c.in-Some.ensures.steps) (rw c.as_str.ensures.value at c.in_ok-entry.ensures) c.in_ok-push.ensures.items)

pub returns : goal.returns
returns c = all_added _ _ _ _ c.loop-inner.invariant.2 (ap (λ ms. map (key_in (Some c.args.key.now)) (toml_keys (members_view ms))) c.in-None.ensures.steps.0)
