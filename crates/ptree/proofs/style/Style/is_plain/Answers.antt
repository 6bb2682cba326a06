use Rattle.std.proofs.Common.{rules}
use Rattle.ptree.specs.Style.{style_codes}
use Rattle.ptree.proofs.style.Style.is_plain.Goals as goal

pub returns-then-is_none : goal.returns-then-is_none
unfolding style_codes
returns-then-is_none c = search rules
