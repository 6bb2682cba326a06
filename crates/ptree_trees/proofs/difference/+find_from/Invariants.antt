use Rattle.std.proofs.Common.{◌<◌, ◌+◌, ◌^◌, ℕ, List}
use Rattle.ptree.specs.Drawing.{Look}
use Rattle.ptree.specs.ItemReader.{bytes_left}
use Rattle.ptree.specs.Outline.{Line}
use Rattle.ptree.specs.ReadItems.{read_text_of}
use Rattle.ptree.specs.Tree.{Tree}
use Rattle.ptree_trees.specs.Found.{AreTreeAt, HasLeft, IsReading}
use Rattle.ptree_trees.proofs.ItemsLeft.{IsSame}
use Rattle.ptree_trees.proofs.difference.+find_from.Given as goal

abbrev pub decreases-find_from : goal.decreases-find_from
decreases-find_from l = bytes_left l.left.now

-- the children so far are the same, and the others follow
abbrev pub invariant-loop-right : goal.invariant-loop-right
invariant-loop-right l = record {
  fewer : l.i + bytes_left l.left < bytes_left l.fn.left;
  few : l.i + bytes_left l.left < 2 ^ 63;
  left : (look : Look) (depth : ℕ) (x : List ℕ) → IsReading look depth x l.fn.left → IsReading look depth x l.left;
  right : (look : Look) (depth : ℕ) (x : List ℕ) → IsReading look depth x l.fn.right → IsReading look depth x l.right;
  same : (look : Look) (depth : ℕ) (x y : List ℕ) (n : ℕ) (t u : Tree) (rest more lines others : List Line)
      → HasLeft look depth x l.fn.left lines → HasLeft look depth y l.fn.right others → AreTreeAt n t rest lines → AreTreeAt n u more others → IsSame look depth x y n t u l.i rest more l.level (read_text_of l.text) l.left l.right;
}

abbrev pub decreases-loop-right : goal.decreases-loop-right
decreases-loop-right l = bytes_left l.left
