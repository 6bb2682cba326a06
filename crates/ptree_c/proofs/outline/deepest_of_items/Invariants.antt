use Rattle.std.proofs.Common.{ℕ, ◌≤◌, ◌-◌, length}
use Rattle.ptree_c.specs.Outlines.{StepsDown, AreRight, AreRightAfter, IsFirstWrong, IsFirstWrongAfter}
use Rattle.ptree_c.specs.declared.refusal.Refusal.{Refusal}
use Rattle.ptree_c.proofs.outline.deepest_of_items.Given as goal

-- if the items that are left step down, all below the root do; if they are right, all are; and the first of them that is wrong is the first of all
abbrev pub invariant-loop-item : goal.invariant-loop-item
invariant-loop-item l = record {
  short : length l.rest ≤ length l.items;
  down : (d : ℕ) → l.deepest ≤ d → StepsDown d l.before.level l.rest → StepsDown d 0 l.initial.rest;
  right : AreRightAfter l.texts.bytes.now l.before l.rest → AreRight l.texts.bytes.now l.items;
  wrong : (e : Refusal) → IsFirstWrongAfter l.texts.bytes.now l.before (length l.items - length l.rest) l.rest e → IsFirstWrong l.texts.bytes.now l.items e;
}

abbrev pub decreases-loop-item : goal.decreases-loop-item
decreases-loop-item l = length l.rest
