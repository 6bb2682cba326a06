-- What tasks mean as items.
use Rattle.std.specs.Prelude.{ℕ, List, string_bytes}
use Rattle.examples.specs.declared.tasks.Task.{Task, out-Task}
use Rattle.ptree.specs.Shape.{Shape, unfolded_shape}
use Rattle.ptree.specs.Style.{StyleValue, style_of, painted_text}

-- what a task writes: its text, painted in its own style
abbrev pub task_own : Task → StyleValue → List ℕ
task_own t _ = painted_text (style_of (out-Task t).style) (string_bytes (out-Task t).text)

-- a task as an item: what it writes, over the tasks below it
abbrev pub task_shape : Task → Shape
task_shape = unfolded_shape task_own (λ t. (out-Task t).tasks.items)
