use Rattle.std.proofs.Common.{◌≡◌, ◌++◌, List, ℕ, drop, map}
use Rattle.std.specs.Io.KnownBytes.{Appends}
use Rattle.ptree.specs.GivenItems.{given_text}
use Rattle.ptree.specs.ItemWriter.{writer_look, path_of}
use Rattle.examples.specs.Given.{given}
use Rattle.examples.proofs.giving.put_given.Given as goal

-- what was drawn and the entries of the items that are left are all
abbrev pub invariant-loop-place : goal.invariant-loop-place
invariant-loop-place g l =
    let look = writer_look l.fn.writer in
    record {
      same : writer_look l.writer ≡ look;
      drawn : (drawn : List ℕ) × (drawn ++ given_text look (path_of l.writer) (map (given g.T.Shaped.shape look) (drop l.place l.items)) ≡ given_text look (path_of l.fn.writer) (map (given g.T.Shaped.shape look) l.items))
          × Appends (g.W.Sink.contents l.fn.f) (g.W.Sink.contents l.f) drawn;
    }
