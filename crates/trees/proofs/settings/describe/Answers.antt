use Rattle.std.proofs.Common.{◌∙◌, ap, not, eqb, length, rules, is_some}
use Rattle.trees.proofs.Told.{some_first}
use Rattle.trees.proofs.settings.describe.Goals as goal

pub returns-clause-faults : goal.returns-clause-faults
returns-clause-faults c =
    let items = c.in_ok-faults.faults.items in
    ◌∙◌ {b = not (eqb (length items) 0)} (search rules) (some_first items ∙ ap is_some c.in_ok-faults.ensures.first)

pub returns-clause-settings : goal.returns-clause-settings
returns-clause-settings c = (_, c.in_ok-push_settings.ensures)
