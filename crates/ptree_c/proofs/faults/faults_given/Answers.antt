use Rattle.ptree_c.proofs.faults.faults_given.Goals as goal

pub returns : goal.returns
returns c = (c.in_ok-sources.sources, c.in_ok-sources.ensures, c.in_ok-report_of.ensures)
