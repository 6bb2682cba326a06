use Rattle.std.proofs.Common.{◌∙◌, arith}
use Rattle.ptree.specs.Config.{default_config}
use Rattle.ptree_c.proofs.Numbered.{numbered_at}
use Rattle.ptree_c.specs.declared.preset.TheConstants.{PRESETS}
use Rattle.ptree_c.proofs.preset.numbered.Goals as goal

pub returns-clause-value : goal.returns-clause-value
returns-clause-value c =
    c.in_ok-config.ensures.value ∙ numbered_at PRESETS default_config c.args.preset _ c.in-Some.preset.now (omega arith) c.in-Some.ensures.lookup.3.0 c.in-Some.ensures.lookup.1
