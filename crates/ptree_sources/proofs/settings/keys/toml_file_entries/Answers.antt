use Rattle.std.proofs.Common.{ap}
use Rattle.std.specs.Prelude.{flat_map}
use Rattle.toml.specs.View.{members_view}
use Rattle.ptree_sources.specs.Settings.{toml_keys, keys_at}
use Rattle.ptree_sources.proofs.Keys.{and_more, all_found}
use Rattle.ptree_sources.proofs.settings.keys.toml_file_entries.Goals as goal

pub loop-key-preserved : goal.loop-key-preserved
loop-key-preserved c =
    (tt, tt, and_more _ _ _ _ _ _ c.loop-key.invariant.2 (ap (λ ms. flat_map keys_at (toml_keys (members_view ms))) c.in-Some.ensures.steps) (rw c.as_str.ensures.value at c.in_ok-push_toml_at.ensures))

pub returns : goal.returns
returns c = all_found _ _ _ c.loop-key.invariant.2 (ap (λ ms. flat_map keys_at (toml_keys (members_view ms))) c.in-None.ensures.steps.0)
