use Rattle.ptree_cli.proofs.run.run_buffered.Given as goal

abbrev pub ghosts-run_begun : goal.ghosts-run_begun
ghosts-run_begun g a = record { begun = g.W.Sink.contents a.out; failed = g.W.Sink.faults a.out }
