use Rattle.trees.proofs.perform.read_drawing.Goals as goal

pub returns-clause-only : goal.returns-clause-only
returns-clause-only c = rw (← c.in_ok-config.ensures) c.read-tree.ensures.only

pub returns-clause-redrawn : goal.returns-clause-redrawn
returns-clause-redrawn c = rw (← c.in_ok-config.ensures) c.read-tree.ensures.redrawn

pub returns-clause-failed : goal.returns-clause-failed
returns-clause-failed c = rw (← c.in_ok-config.ensures) c.read-tree.ensures.failed
