use Rattle.std.specs.Cmp.Lexicographic.{slice_cmp}
use Rattle.std.specs.Ordering.{is_lt, nat_cmp}
use Rattle.std.proofs.Common.{rules, Bool}
use Rattle.std.proofs.lemmas.List.Sorted.{answers_always}
use Rattle.std.proofs.lemmas.Result.{on_ok_weaker}
use Rattle.ptree_trees.specs.declared.paths.key.KeyedCut.{KeyedCut}
use Rattle.ptree_trees.specs.PathGroups.{keyed_cut}
use Rattle.ptree_trees.proofs.SortedCuts.{names_rank, sorted_named, sorted_none_above}
use Rattle.ptree_trees.proofs.paths.groups.sort_by_name.Goals as goal

pub returns : goal.returns
returns c =
    let less : KeyedCut → KeyedCut → Bool = λ a b. is_lt (slice_cmp nat_cmp (keyed_cut a).name (keyed_cut b).name) in
    let ys = c.sort_by.new.self.items in
    let named = sorted_named keyed_cut c.args.paths.now.items ys (c.sort_by.ensures.stable less (names_rank keyed_cut) (answers_always _ _ _ (λ f a r g h. search rules))) in
    on_ok_weaker c.sort_by.result
    (λ s. record {
      ascending = λ i d. sorted_none_above keyed_cut ys i d (s less (names_rank keyed_cut) (answers_always _ _ _ (λ f a r g h. search rules)));
      stable = named;
    })
    c.sort_by.ensures.sorted
