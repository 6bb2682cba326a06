use Rattle.std.proofs.Common.{◌≡◌, ◌<◌, length, true, rules, arith}
use Rattle.std.specs.Str.{all_ascii_digits}
use Rattle.ptree.proofs.Config.Digits.{too_wide}
use Rattle.ptree.proofs.print_config.parse.parse_number.Goals as goal

pub returns-in-Err : goal.returns-in-Err
returns-in-Err c =
    let s = c.args.text.now in
    let long : 0 < length s = search (rules, arith) in
    let digits : all_ascii_digits s ≡ true = search rules in
    too_wide s c.args.greatest long digits c.in-Err.ensures.value.0 c.ranges.greatest.fits
