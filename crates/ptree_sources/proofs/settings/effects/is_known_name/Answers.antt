use Rattle.std.proofs.Common.{◌≡◌, ◌<◌, string_bytes, length, arith}
use Rattle.ptree_sources.proofs.KnownColors.{no_code, some_code}
use Rattle.ptree_sources.proofs.settings.effects.is_known_name.Goals as goal

pub returns-then-len-eq0 : goal.returns-then-len-eq0
returns-then-len-eq0 c =
    let empty : length (string_bytes c.in_ok-painted.painted) ≡ 0 = omega arith in
    no_code c.in_ok-name.name _ (string_bytes c.in_ok-painted.painted) c.default-style.result c.in_ok-name.ensures.ok c.default-style.ensures c.in_ok-painted.ensures.text empty

pub returns : goal.returns
returns c =
    let some : 0 < length (string_bytes c.in_ok-painted.painted) = omega arith in
    some_code c.in_ok-name.name _ (string_bytes c.in_ok-painted.painted) c.default-style.result c.in_ok-name.ensures.ok c.default-style.ensures c.in_ok-painted.ensures.text some
