use Rattle.std.proofs.Common.{◌++◌, inl}
use Rattle.ptree.proofs.Reading.LineTexts.{no_text_behind, text_behind}
use Rattle.ptree.proofs.read.lines.text_behind.Goals as goal

pub returns-in_default : goal.returns-in_default
returns-in_default c = inl (λ z e. c.in_default.ensures (_ ++ z) e)

pub returns-in_default-skip_codes : goal.returns-in_default-skip_codes
returns-in_default-skip_codes c = no_text_behind _ _ _ _ c.in-Some.ensures c.in_default-skip_codes.ensures

pub returns : goal.returns
returns c = text_behind _ _ _ _ _ c.read_line.result c.in-Some.ensures c.in-Some-skip_codes.ensures c.read_line.ensures
