use Rattle.std.proofs.Common.{arith}
use Rattle.ptree.proofs.Config.ThreeBytes.{no_json_rgb}
use Rattle.ptree.proofs.print_config.file.json_rgb.Goals as goal

pub returns-in_default : goal.returns-in_default
returns-in_default c = no_json_rgb c.args.items.now (λ e. omega (arith, c.in_default.len_below))

pub returns-in_default-2 : goal.returns-in_default-2
returns-in_default-2 c = no_json_rgb c.args.items.now (λ e. omega (arith, c.in_default.len_at_least))
