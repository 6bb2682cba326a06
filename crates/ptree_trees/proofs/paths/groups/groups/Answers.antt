use Rattle.std.proofs.Common.{ℕ, map, subst, sym, rules}
use Rattle.std.proofs.lemmas.List.Sorted.{answers_always, IsNonDecreasingBy-from_sort}
use Rattle.ptree_trees.specs.declared.paths.group.Group.{Group}
use Rattle.ptree_trees.specs.PathGroups.{cut_of, group_of, AreCuts, AreGroups, IsPathGroups}
use Rattle.ptree_trees.specs.SharedStart.{names_behind}
use Rattle.ptree_trees.proofs.GroupResults.{groups_ascend, groups_given}
use Rattle.ptree_trees.proofs.paths.groups.groups.Goals.{In_ok-groups}
use Rattle.ptree_trees.proofs.paths.groups.groups.Goals as goal

-- the groups of the paths as they are cut
by_name : (c : In_ok-groups) → IsPathGroups c.args.separator (map group_of c.in_ok-groups.groups.items) (names_behind c.args.separator c.args.start.now c.args.paths.now)
by_name c =
    let s = c.args.separator in
    let ps = names_behind s c.args.start.now c.args.paths.now in
    c.in_ok-groups.ensures s ps (subst (λ cs. AreCuts s 0 (map cut_of cs) ps) (sym c.as_slice.ensures.value) c.in_ok-cuts.ensures)

pub returns-then-is_sorted : goal.returns-then-is_sorted
returns-then-is_sorted c =
    let s = c.args.separator in
    let gs = map group_of c.in_ok-groups.groups.items in
    let ps = names_behind s c.args.start.now c.args.paths.now in
    subst (λ b. AreGroups b s gs ps) (sym c.if-is_sorted.true) (groups_ascend s gs ps (by_name (goal.at.returns-then-is_sorted c).In_ok-groups))

pub returns : goal.returns
returns c =
    let s = c.args.separator in
    let gs = c.in_ok-groups.groups.items in
    let hs = c.sort_unstable_by_key.new.self.items in
    let ps = names_behind s c.args.start.now c.args.paths.now in
    let first : Group → ℕ = λ g. g.first in
    let up = IsNonDecreasingBy-from_sort first hs (c.sort_unstable_by_key.ensures.sorted first (answers_always _ _ _ (λ f a r g h. search rules))) in
    subst (λ b. AreGroups b s (map group_of hs) ps) (sym c.if-is_sorted.false) (groups_given s gs hs ps c.sort_unstable_by_key.ensures.permutation up (by_name (goal.at.returns c).In_ok-groups))
