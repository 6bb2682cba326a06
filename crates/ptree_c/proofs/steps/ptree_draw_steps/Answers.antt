use Rattle.ptree_c.specs.Fields.{look_of}
use Rattle.ptree_c.proofs.Given.{draws_trees, draws_parts}
use Rattle.ptree_c.proofs.steps.ptree_draw_steps.Goals as goal

pub returns-in-Ok-clause-trees : goal.returns-in-Ok-clause-trees
returns-in-Ok-clause-trees c = draws_trees (look_of c.args.names.now c.args.config.now) c.args.texts.now

pub returns-in-Ok-clause-parts : goal.returns-in-Ok-clause-parts
returns-in-Ok-clause-parts c = draws_parts (look_of c.args.names.now c.args.config.now) c.args.texts.now

pub returns-in-Err-clause-trees : goal.returns-in-Err-clause-trees
returns-in-Err-clause-trees c = draws_trees (look_of c.args.names.now c.args.config.now) c.args.texts.now

pub returns-in-Err-clause-parts : goal.returns-in-Err-clause-parts
returns-in-Err-clause-parts c = draws_parts (look_of c.args.names.now c.args.config.now) c.args.texts.now
