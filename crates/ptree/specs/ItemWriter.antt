-- What a contract sees of a writer of items.
use Rattle.std.specs.Prelude.{ℕ, Bool, List, Result, Ok, Err}
use Rattle.ptree.specs.Drawing.{Look}
use Rattle.ptree.specs.Looks.{look_of}
use Rattle.ptree.specs.Line.{line_bytes}
use Rattle.ptree.specs.Rungs.{flags_of}
use Rattle.ptree.specs.Writing.{result_faults}
use Rattle.ptree.specs.declared.output.writer.ItemWriter.{ItemWriter}
use Rattle.ptree.specs.declared.output.writer.ItemError.{ItemError}
use Rattle.ptree.specs.declared.output.writer.ItemError.TheVariants.{Level, Draw}

-- how it draws
abbrev pub writer_look : ItemWriter → Look
writer_look writer = look_of writer.brush.look

-- the path of the last item: whether it and each item above it is a last child, from level 1 on
abbrev pub path_of : ItemWriter → List Bool
path_of writer = flags_of writer.rungs.items

-- the bytes that it holds: after an item was made, those of its entry
abbrev pub entry_of : ItemWriter → List ℕ
entry_of writer = line_bytes writer.pen.line

-- the number of the sink's faults that a result reports
abbrev pub item_faults : {A : Type 0} → Result A ItemError → ℕ
item_faults (Ok x) = 0
item_faults (Err Level) = 0
item_faults {A} (Err (Draw e)) = result_faults {A = A} (Err e)
