use Rattle.std.proofs.Common.{◌≡◌, ◌∙◌, ◌+◌, ◌-◌, ℕ, List, length, set, ap, sym, map, rules}
use Rattle.std.specs.Option.{option_to_list}
use Rattle.std.specs.Prelude.{option_map}
use Rattle.std.specs.Vec.{vec_len}
use Rattle.std.proofs.lemmas.Bool.{false≢true}
use Rattle.std.proofs.lemmas.Result.{on_ok_weaker}
use Rattle.std.proofs.lemmas.Slice.Eq.{bytes_eq-Decides}
use Rattle.ptree_trees.specs.PathGroups.{PathGroup, keyed_cut}
use Rattle.ptree_trees.proofs.GroupSteps.{group_same, group_next, group_first, still}
use Rattle.ptree_trees.proofs.paths.groups.add_path.Goals.{in-Some+else-has, in_default}
use Rattle.ptree_trees.proofs.paths.groups.add_path.Goals as goal

pub returns-then-has : goal.returns-then-has
returns-then-has c =
    let gs = c.args.groups.now.items in
    let k = vec_len c.args.groups.now - 1 in
    let group = c.in-Some.group.now in
    let name = c.args.path.now.cut.now.name.now in
    let count : length gs ≡ k + 1 = search rules in
    let same : group.name.now ≡ name = (bytes_eq-Decides group.name.now name).0 (sym c.has.ensures ∙ c.if-has.true) in
    let grown : List (List ℕ) → PathGroup = λ z. record { name = group.name.now; first = group.first; tails = z } in
    on_ok_weaker c.add_tail.result (λ added cuts h none. group_same gs k group _ (keyed_cut c.args.path.now) count c.in-Some.ensures.value same (ap grown added) cuts h) c.add_tail.ensures

pub returns : goal.returns
returns c = λ cuts h none.
    let gs = c.args.groups.now.items in
    let k = vec_len c.args.groups.now - 1 in
    let path = c.args.path.now in
    let cut = keyed_cut path in
    let new : map (λ t. t.now) c.add_tail-2.new.tails.items ≡ option_to_list (option_map (λ t. t.now) path.cut.now.tail) = search rules in
    let group : List (List ℕ) → PathGroup = λ z. record { name = path.cut.now.name.now; first = path.cut.now.index; tails = z } in
    let added = ap group new in
    let mid = c.match-last_mut.groups.items in
    elim c.match-last_mut.branch [
      | in-Some+else-has w ↦
          let last = w.in-Some.group.now in
          let same : set gs k last ≡ gs = still gs k last w.in-Some.ensures.value in
          group_next gs mid c.push.new.self.items k last _ cut (search rules) w.in-Some.ensures.value
          (λ e. false≢true (sym w.if-has.false ∙ (w.has.ensures ∙ (bytes_eq-Decides last.name.now cut.name).1 e))) added
          c.in_ok-push.ensures.items (ap (λ v. v.items) w.groups-is ∙ same) cuts h none
      | in_default w ↦ group_first gs mid c.push.new.self.items _ cut (search rules) added c.in_ok-push.ensures.items (ap (λ v. v.items) w.groups-is) cuts h
    ]
