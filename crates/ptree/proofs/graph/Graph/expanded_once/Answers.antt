use Rattle.std.proofs.Common.{◌≡◌, ◌∷◌, [], Bool, List, length, ap, ◌∙◌, subst, arith}
use Rattle.ptree.specs.declared.graph.places.Place.{Place}
use Rattle.ptree.specs.Graph.{weights_of, edges_of, neighbors_of}
use Rattle.ptree.specs.Growing.{grow, all_flags, AppendsPlaces}
use Rattle.ptree.specs.Occurrence.{OccurrenceTree, first_tree, occurrence_count, tree_places}
use Rattle.ptree.proofs.Graphs.Firsts.{expands_first, leaves_unrepeated}
use Rattle.ptree.proofs.Graphs.Growth.{no_flags, made_is_drawn, graph_has_one, made_has_size}
use Rattle.ptree.proofs.Graphs.Places.{tree_of_places, places_of_tree, number_of_places}
use Rattle.ptree.proofs.graph.Graph.expanded_once.Goals as goal

pub returns-in_err-push_places-clause-one_tree : goal.returns-in_err-push_places-clause-one_tree
returns-in_err-push_places-clause-one_tree g c = graph_has_one c.args.self.now c.args.start.0 c.args.depth

pub returns-clause-one_tree : goal.returns-clause-one_tree
returns-clause-one_tree g c = graph_has_one c.args.self.now c.args.start.0 c.args.depth

pub returns-clause-tree : goal.returns-clause-tree
returns-clause-tree g c =
    let graph = c.args.self.now in
    let places = c.push_places.new.places.items in
    let made : List Bool → OccurrenceTree = λ seen. (grow (neighbors_of (edges_of graph)) c.args.depth seen c.args.start.0).occurrence in
    let flags : List Bool → List Bool = all_flags (length (weights_of graph)) in
    let pushed : AppendsPlaces c.new-places.result.items places (made (flags c.new-seen.result.items) ∷ []) = search c.in_ok-push_places.ensures.places in
    let appended = subst (λ (xs : List Place). AppendsPlaces xs places (made (flags c.new-seen.result.items) ∷ [])) c.new-places.ensures.items pushed in
    made_is_drawn graph c.args.start.0 c.args.depth (first_tree places)
    (tree_of_places places (made (flags c.new-seen.result.items)) appended ∙ ap made (ap flags c.new-seen.ensures.items ∙ no_flags graph))

pub returns-clause-places : goal.returns-clause-places
returns-clause-places g c =
    let places = c.push_places.new.places.items in
    let (ps, added, are) = c.in_ok-push_places.ensures.places in
    let known : places ≡ tree_places (first_tree places) = places_of_tree c.new-places.ensures.items added are in
    search known

pub returns-clause-count : goal.returns-clause-count
returns-clause-count g c =
    let places = c.push_places.new.places.items in
    let (ps, added, are) = c.in_ok-push_places.ensures.places in
    let known : length places ≡ occurrence_count (first_tree places) = number_of_places c.new-places.ensures.items added are in
    omega (arith, known)

pub returns-clause-size : goal.returns-clause-size
returns-clause-size g c = made_has_size c.args.self.now c.args.start.0 c.args.depth (first_tree c.push_places.new.places.items) (returns-clause-tree g c)

pub returns-clause-first : goal.returns-clause-first
returns-clause-first g c = expands_first (neighbors_of (edges_of c.args.self.now)) c.args.start.0 c.args.depth (first_tree c.push_places.new.places.items) (returns-clause-tree g c)

pub returns-clause-leaf : goal.returns-clause-leaf
returns-clause-leaf g c = leaves_unrepeated (neighbors_of (edges_of c.args.self.now)) c.args.start.0 c.args.depth (first_tree c.push_places.new.places.items) (returns-clause-tree g c)
