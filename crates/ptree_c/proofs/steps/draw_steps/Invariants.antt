use Rattle.std.proofs.Common.{◌≡◌, ◌≤◌, length, take, drop}
use Rattle.ptree.specs.Drawing.{written_look}
use Rattle.ptree.specs.ItemWriter.{writer_look}
use Rattle.ptree_c.specs.Rooms.{IsFilled}
use Rattle.ptree_c.specs.Steps.{path_after, steps_text, IsOnPath}
use Rattle.ptree_c.proofs.steps.draw_steps.Given as goal

-- the first items were drawn
abbrev pub invariant-loop-step : goal.invariant-loop-step
invariant-loop-step l = record {
  within : l.items ≤ length l.steps;
  left : l.rest ≡ drop l.items l.steps;
  filled : IsFilled l.fn.out (steps_text (written_look l.config) l.texts l.fn.path (take l.items l.steps)) l.out l.bytes;
  path : l.path ≡ path_after l.fn.path (take l.items l.steps);
  look : writer_look l.writer ≡ written_look l.config;
  on_path : IsOnPath l.path l.writer;
  room : l.bytes ≤ length l.out;
}

abbrev pub decreases-loop-step : goal.decreases-loop-step
decreases-loop-step l = length l.rest
