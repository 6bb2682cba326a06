use Rattle.std.proofs.Common.{ap, map}
use Rattle.ptree_sources.specs.Warnings.{warning_of}
use Rattle.ptree_sources.proofs.WarningLists.{all_gathered}
use Rattle.ptree_sources.proofs.settings.effects.warnings.Goals as goal

pub returns : goal.returns
returns c =
    all_gathered c.args.sources.now _ c.in_ok-entries.entries.items _ _ _ _ _ _ _ c.in_ok-entries.ensures (ap (map warning_of) c.new-found.ensures.items)
    c.deref.ensures.value c.deref-2.ensures.value c.deref-3.ensures.value
    c.in_ok-push_stray.ensures c.in_ok-push_unknown_keys.ensures c.in_ok-push_variable_colors.ensures c.in_ok-push_key_colors.ensures
