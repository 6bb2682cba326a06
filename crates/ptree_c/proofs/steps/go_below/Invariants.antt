use Rattle.std.proofs.Common.{◌≡◌, ◌-◌, length}
use Rattle.ptree.specs.ItemWriter.{writer_look, path_of}
use Rattle.ptree_c.specs.Steps.{IsOnPath}
use Rattle.ptree_c.proofs.steps.go_below.Given as goal

-- the writer is on the path
abbrev pub invariant-loop-writer : goal.invariant-loop-writer
invariant-loop-writer l = record {
  on_path : IsOnPath l.path l.writer;
  look : writer_look l.writer ≡ writer_look l.fn.writer;
}

abbrev pub decreases-loop-writer : goal.decreases-loop-writer
decreases-loop-writer l = l.level - length (path_of l.writer)
