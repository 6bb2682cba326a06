-- The children are those of the shape, since a task's shape is unfolded from the tasks below it.
use Rattle.std.proofs.Common.{◌∙◌, ap, map}
use Rattle.examples.specs.declared.tasks.Task.{out-Task}
use Rattle.examples.specs.Tasks.{task_own, task_shape}
use Rattle.ptree.proofs.Trees.Shapes.{kids_of_unfold}
use Rattle.examples.proofs.tasks.TaskTreeItem.children.Goals as goal

pub returns : goal.returns
returns c =
    ap (map task_shape) c.as_slice.ensures.value
    ∙ kids_of_unfold task_own (λ t. (out-Task t).tasks.items) c.args.self.now
