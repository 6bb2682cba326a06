use Rattle.trees.proofs.Common.{rules, config_of, written_look}
use Rattle.ptree.proofs.Reading.Scanning.{wrong_line_no_drawing}
use Rattle.trees.specs.Named.{IsReadBy}
use Rattle.trees.proofs.pieces.is_read.Goals as goal

pub returns-in-Err-Line : goal.returns-in-Err-Line
returns-in-Err-Line c =
    let config = c.args.config.now in
    let wrong = c.in-Err-Line in
    let unread : IsReadBy (config_of config) c.args.text.now → ⊥ =
    λ is. wrong_line_no_drawing (written_look config) config.depth c.args.text.now wrong.field-0-0 (rw wrong.field-0-is at wrong.ensures) is.form.0 is.form.1 in
    search (rules, unread)
