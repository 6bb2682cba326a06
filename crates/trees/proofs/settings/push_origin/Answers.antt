use Rattle.std.proofs.Common.{◌++◌, codes}
use Rattle.std.proofs.lemmas.Result.{on_ok_weaker}
use Rattle.trees.proofs.Reports.{on_ok_is}
use Rattle.trees.proofs.settings.push_origin.Goals as goal

pub returns-in-Variable : goal.returns-in-Variable
returns-in-Variable c = on_ok_weaker c.writeln.result (λ bytes. (codes "variable " ++ c.in-Variable.name.now, bytes)) c.writeln.ensures.bytes

pub returns-in-File : goal.returns-in-File
returns-in-File c = on_ok_weaker c.push_str.result (λ bytes. (codes "file", bytes)) (on_ok_is c.push_str.result _ _ _ c.push_str.ensures.bytes)

pub returns-in-Default : goal.returns-in-Default
returns-in-Default c = on_ok_weaker c.push_str-in-Default.result (λ bytes. (codes "default", bytes)) (on_ok_is c.push_str-in-Default.result _ _ _ c.push_str-in-Default.ensures.bytes)
