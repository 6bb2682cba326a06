use Rattle.std.proofs.Common.{◌≡◌, ◌≤◌, length}
use Rattle.ptree.specs.PartialTree.{IsPartial, partial_lines}
use Rattle.ptree.proofs.builder.partial.PartialTree.close.Given as goal

-- no line is lost
abbrev pub invariant-loop-self : goal.invariant-loop-self
invariant-loop-self l =
    record {
      partial : IsPartial l.self;
      high : l.level ≤ length l.self.parents.items;
      lines : partial_lines l.self ≡ partial_lines l.initial.self;
    }

abbrev pub decreases-loop-self : goal.decreases-loop-self
decreases-loop-self l = length l.self.parents.items
