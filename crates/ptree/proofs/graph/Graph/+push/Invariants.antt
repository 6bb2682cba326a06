use Rattle.std.proofs.Common.{◌≡◌, ◌≤◌, [], ◌∷◌, ◌++◌, ◌-◌, ◌+◌, ◌*◌, List, length, take}
use Rattle.ptree.specs.Graph.{weights_of, edges_of, neighbors_of}
use Rattle.ptree.specs.GraphLinks.{newest_from}
use Rattle.ptree.specs.Growing.{enter, grow, row_occurrences, row_seen, all_flags, place_of, AppendsPlaces}
use Rattle.ptree.specs.Occurrence.{OccurrenceTree}
use Rattle.ptree.proofs.graph.Graph.+push.Given as goal

abbrev pub decreases-push_places : goal.decreases-push_places
decreases-push_places g l = 2 * l.levels + 1

abbrev pub decreases-push_expanded : goal.decreases-push_expanded
decreases-push_expanded g l = 2 * l.levels

abbrev pub decreases-push_expanded-loop-number : goal.decreases-push_expanded-loop-number
decreases-push_expanded-loop-number g l = l.number

-- the occurrences so far and those of the targets that are left are those of all targets
abbrev pub invariant-push_expanded-loop-number : goal.invariant-push_expanded-loop-number
invariant-push_expanded-loop-number g l =
    let n = length (weights_of l.self) in
    let below = neighbors_of (edges_of l.self) in
    let one = grow below (l.levels - 1) in
    let start = enter (below l.node.0) (all_flags n l.fn.seen.items) l.node.0 in
    let left = neighbors_of (take l.number (edges_of l.self)) l.node.0 in
    record {
      places : (ts : List OccurrenceTree) × AppendsPlaces (l.fn.places.items ++ place_of l.node.0 1 ∷ []) l.places.items ts × (ts ++ row_occurrences one (all_flags n l.seen.items) left ≡ row_occurrences one start (below l.node.0));
      seen : row_seen one (all_flags n l.seen.items) left ≡ row_seen one start (below l.node.0);
      length : length l.seen.items ≤ n;
      newest : l.number ≡ newest_from (take l.number (edges_of l.self)) l.node.0;
    }
