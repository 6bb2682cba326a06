use Rattle.trees.proofs.perform.reports.push_reports.Goals as goal

pub returns-clause-all : goal.returns-clause-all
returns-clause-all c = rw (← c.in_ok-config.ensures) c.push_checks-are_drawings.ensures.all
