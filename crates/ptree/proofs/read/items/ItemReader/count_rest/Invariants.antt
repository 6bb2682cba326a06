use Rattle.std.proofs.Common.{◌≡◌, ◌≤◌, ◌+◌, ◌++◌, ℕ, List, length}
use Rattle.ptree.specs.Drawing.{Look}
use Rattle.ptree.specs.ItemReader.{HasRead, bytes_left}
use Rattle.ptree.specs.Outline.{Line}
use Rattle.ptree.proofs.read.items.ItemReader.count_rest.Given as goal

abbrev pub invariant-loop-item : goal.invariant-loop-item
invariant-loop-item l = record {
  few : l.count + bytes_left l.self ≤ bytes_left l.initial.self;
  read : (look : Look) (depth : ℕ) (x : List ℕ) (done : List Line) → HasRead look depth x l.initial.self done → (rest : List Line) × (length rest ≡ l.count) × HasRead look depth x l.self (done ++ rest);
}

abbrev pub decreases-loop-item : goal.decreases-loop-item
decreases-loop-item l = bytes_left l.self
