use Rattle.std.proofs.Common.{◌≡◌, ◌<◌, ◌-◌, false, [], ◌∷◌, ◌++◌, inl, inr, refl, length, take, ap, sym, ◌∙◌, append_assoc, arith, rules}
use Rattle.std.proofs.lemmas.Bool.{cases_lt}
use Rattle.std.proofs.lemmas.Grind.{common_steps}
use Rattle.std.proofs.lemmas.List.{length-map}
use Rattle.ptree.specs.Graph.{weights_of, edges_of, neighbors_of}
use Rattle.ptree.specs.GraphLinks.{ends_of}
use Rattle.ptree.specs.Growing.{is_seen, grow, grown_from, flags_of, place_of, leaf_size, AppendsPlaces}
use Rattle.ptree.proofs.Graphs.EdgeLists.{newest_starts, newest_within}
use Rattle.ptree.proofs.Graphs.Growth.{stopped, without, grown_all, leaf_made, row_made, seen_made}
use Rattle.ptree.proofs.Graphs.Links.{linked-step}
use Rattle.ptree.proofs.Graphs.NodeFlags.{flag_read, seen_all}
use Rattle.ptree.proofs.Graphs.Rows.{row_starts, row_next}
use Rattle.ptree.proofs.Graphs.Places.{appends_none, appends_more, appends_over}
use Rattle.ptree.proofs.graph.Graph.+push.Goals as goal
use Rattle.ptree.proofs.graph.Graph.+push.Goals.{push_places-then-repeated-via-then-repeated, push_places-then-repeated-via-else-repeated+then-levels-eq0}

pub push_places-returns-then-repeated : goal.push_places-returns-then-repeated
push_places-returns-then-repeated g t c =
    let v = c.args.node.0 in
    let xs = c.args.places.now.items in
    let seen = flags_of c.args.self.now c.args.seen.now.items in
    let all = grown_from c.args.self.now c.args.levels c.args.seen.now.items v in
    let flag : c.is_flagged-repeated.result ≡ is_seen seen v = flag_read (length (weights_of c.args.self.now)) c.args.seen.now.items _ v _ c.is_flagged-repeated.ensures c.deref.ensures.value in
    let leaf : c.leaf.result ≡ place_of v (leaf_size c.is_flagged-repeated.result) = search c.leaf.ensures in
    let made = stopped (neighbors_of (edges_of c.args.self.now)) c.args.levels seen v
    (elim c.then-repeated.branch [ push_places-then-repeated-via-then-repeated w ↦ inl (sym flag ∙ w.if-repeated.true) | push_places-then-repeated-via-else-repeated+then-levels-eq0 w ↦ inr w.if-levels-eq0.true ]) in
    record {
      places = leaf_made all xs c.push.new.self.items v (is_seen seen v) seen made
          (c.in_ok-push.ensures.items ∙ (ap (λ p. xs ++ p ∷ []) leaf ∙ ap (λ b. xs ++ place_of v (leaf_size b) ∷ []) flag));
      seen = seen_made all _ seen _ made (search rules);
      length = c.requires;
    }

pub push_places-returns-then-newest-eq0 : goal.push_places-returns-then-newest-eq0
push_places-returns-then-newest-eq0 g t c =
    let v = c.args.node.0 in
    let xs = c.args.places.now.items in
    let edges = edges_of c.args.self.now in
    let seen = flags_of c.args.self.now c.args.seen.now.items in
    let all = grown_from c.args.self.now c.args.levels c.args.seen.now.items v in
    let flag : c.is_flagged-repeated.result ≡ is_seen seen v = flag_read (length (weights_of c.args.self.now)) c.args.seen.now.items _ v _ c.is_flagged-repeated.ensures c.deref.ensures.value in
    let none : neighbors_of edges v ≡ [] = sym (newest_starts edges v c.newest-newest.result c.newest-newest.ensures.newest).0 ∙ ap (λ k. neighbors_of (take k edges) v) c.if-newest-eq0.true in
    let leaf : c.leaf-then-newest-eq0.result ≡ place_of v 1 = search c.leaf-then-newest-eq0.ensures in
    let made = without (neighbors_of edges) c.args.levels seen v c.if-levels-eq0.false (sym flag ∙ c.if-repeated.false) none in
    record {
      places = leaf_made all xs c.push-then-newest-eq0.new.self.items v false seen made (c.in_ok-push-2.ensures.items ∙ ap (λ p. xs ++ p ∷ []) leaf);
      seen = seen_made all _ seen _ made (search rules);
      length = c.requires;
    }

pub push_places-push_expanded-requires : goal.push_places-push_expanded-requires
push_places-push_expanded-requires g t c =
    let within : c.args.node.0 < length (weights_of c.args.self.now) =
    elim (cases_lt c.args.node.0 (length (weights_of c.args.self.now))) [ inl x ↦ x | inr x ↦ absurd (c.if-newest-eq0.false (c.newest-newest.ensures.no_node x)) ] in
    let unseen : is_seen c.args.seen.now.items c.args.node.0 ≡ false = sym (c.is_flagged-repeated.ensures ∙ ap (λ l. is_seen l c.args.node.0) c.deref.ensures.value) ∙ c.if-repeated.false in
    grind (arith, common_steps, within, unseen)

pub push_expanded-loop-number-init : goal.push_expanded-loop-number-init
push_expanded-loop-number-init g t c =
    let graph = c.args.self.now in
    let before = c.args.places.now.items in
    let set = c.in_ok-set_flag.ensures.flags (length (weights_of graph)) c.requires.node c.requires.length in
    let (all, seen, newest) = row_starts graph (c.args.levels - 1) c.args.node.0 c.args.newest (flags_of graph c.args.seen.now.items) (flags_of graph c.set_flag.new.seen.items) c.requires.newest c.requires.some set.0 in
    let leaf : c.leaf.result ≡ place_of c.args.node.0 1 = search c.leaf.ensures in
    record {
      places = ([], appends_none (before ++ place_of c.args.node.0 1 ∷ []) c.push.new.self.items (c.in_ok-push.ensures.items ∙ ap (λ p. before ++ p ∷ []) leaf), all);
      seen = seen;
      length = set.1;
      newest = newest;
    }

pub push_expanded-index-edge-requires : goal.push_expanded-index-edge-requires
push_expanded-index-edge-requires g t c =
    omega (arith, newest_within (edges_of c.args.self.now) c.args.node.0 c.loop-number.number c.loop-number.invariant.newest, length-map c.args.self.now.edges.items ends_of)

pub push_expanded-loop-number-smaller : goal.push_expanded-loop-number-smaller
push_expanded-loop-number-smaller g t c =
    (linked-step _ _ c.args.node.0 c.loop-number.number c.index-edge.result.now c.args.self.now.linked (omega arith) c.loop-number.invariant.newest c.index-edge.ensures).2

pub push_expanded-loop-number-preserved : goal.push_expanded-loop-number-preserved
push_expanded-loop-number-preserved g t c =
    let graph = c.args.self.now in
    let last = flags_of graph c.loop-number.seen.items in
    let one = grow (neighbors_of (edges_of graph)) (c.args.levels - 1) last c.index-edge.result.now.target in
    let (ts, made, whole) = c.loop-number.invariant.places in
    let pushed : AppendsPlaces c.loop-number.places.items c.push_places.new.places.items (one.occurrence ∷ []) = search c.in_ok-push_places.ensures.places in
    let seen : flags_of graph c.push_places.new.seen.items ≡ one.seen = search c.in_ok-push_places.ensures.seen in
    let next = row_next graph (c.args.levels - 1) c.args.node.0 c.loop-number.number c.index-edge.result.now last _ (omega arith) c.loop-number.invariant.newest c.index-edge.ensures seen in
    record {
      places = (
        ts ++ one.occurrence ∷ [],
        appends_more (c.args.places.now.items ++ place_of c.args.node.0 1 ∷ []) c.loop-number.places.items c.push_places.new.places.items ts (one.occurrence ∷ []) made pushed,
        append_assoc ts (one.occurrence ∷ []) _ ∙ (ap (λ os. ts ++ os) (sym next.0) ∙ whole),
      );
      seen = next.1 ∙ c.loop-number.invariant.seen;
      length = c.in_ok-push_places.ensures.length;
      newest = next.2;
    }

pub push_expanded-returns : goal.push_expanded-returns
push_expanded-returns g t c =
    let v = c.args.node.0 in
    let xs = c.args.places.now.items in
    let edges = edges_of c.args.self.now in
    let seen = flags_of c.args.self.now c.args.seen.now.items in
    let last = flags_of c.args.self.now c.loop-number.seen.items in
    let all = grown_from c.args.self.now c.args.levels c.args.seen.now.items v in
    let flag : is_seen seen v ≡ false = seen_all (length (weights_of c.args.self.now)) c.args.seen.now.items v ∙ c.requires.unseen in
    let (ts, pushed, whole) = c.loop-number.invariant.places in
    let ended : c.loop-number.number ≡ 0 = omega (arith, c.loop-number-test.false) in
    let made = grown_all (neighbors_of edges) c.args.levels seen last v ts (neighbors_of (take c.loop-number.number edges) v) c.requires.levels flag
    (ap (λ k. neighbors_of (take k edges) v) ended) whole c.loop-number.invariant.seen in
    record {
      places = row_made all xs _ v ts last made
          (appends_over xs c.loop-number.places.items _ v c.len-index.result (c.len.result - c.len-index.result) ts pushed (omega (arith, c.len-index.ensures, c.args.places.now.ok.0)) (omega (arith, c.len.ensures, c.loop-number.places.ok.0)) (search rules));
      seen = seen_made all _ last last made refl;
      length = c.loop-number.invariant.length;
    }
