use Rattle.std.proofs.Common.{◌≡◌, ◌++◌, List, ℕ, drop}
use Rattle.ptree.specs.ItemWriter.{writer_look, path_of}
use Rattle.ptree_c.specs.Outlines.{drawn_text, steps_from}
use Rattle.ptree_c.specs.Rooms.{IsFilled}
use Rattle.ptree_c.proofs.Outlined.{HaveTexts}
use Rattle.ptree_c.proofs.outline.draw_items.Given as goal

-- what was drawn and the entries of the items that are left are all
abbrev pub invariant-loop-place : goal.invariant-loop-place
invariant-loop-place l = record {
  drawn : (drawn : List ℕ) × IsFilled l.fn.out drawn l.out l.at
      × (drawn ++ drawn_text (writer_look l.fn.writer) l.texts.bytes.now (path_of l.writer) (steps_from l.depth l.from (drop l.place l.items) (drop l.place l.flags))
      ≡ drawn_text (writer_look l.fn.writer) l.texts.bytes.now (path_of l.fn.writer) (steps_from l.depth 0 l.items l.flags));
  look : writer_look l.writer ≡ writer_look l.fn.writer;
  texts : HaveTexts l.texts.bytes.now l.from (drop l.place l.items);
}
