use Rattle.ptree.proofs.print_config.file.first_place.Given as goal

abbrev pub decreases-keys : goal.decreases-keys
decreases-keys l = l.place
