use Rattle.std.proofs.Common.{◌≡◌, ◌<◌, length, true, rules, arith, ap}
use Rattle.std.specs.Prelude.{is_some}
use Rattle.std.specs.Str.{all_ascii_digits}
use Rattle.ptree.proofs.Config.Digits.{too_wide}
use Rattle.ptree_sources.proofs.settings.effects.is_byte.Goals as goal

pub returns-in-Err : goal.returns-in-Err
returns-in-Err c =
    let s = c.args.text.now in
    let long : 0 < length s = search (rules, arith) in
    let digits : all_ascii_digits s ≡ true = search rules in
    ap is_some (too_wide s 255 long digits c.in-Err.ensures.value.0 (omega arith))
