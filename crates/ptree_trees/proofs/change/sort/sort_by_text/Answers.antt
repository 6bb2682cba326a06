use Rattle.std.proofs.Common.{rules}
use Rattle.std.proofs.lemmas.List.Sorted.{answers_always}
use Rattle.std.proofs.lemmas.Result.{on_ok_weaker}
use Rattle.ptree.specs.Tree.{tree_of}
use Rattle.ptree.proofs.Trees.ItemTrees.{tree_of_item}
use Rattle.ptree_trees.proofs.Sorting.{texts_rank, sorts_trees}
use Rattle.ptree_trees.specs.Sort.{is_text_less}
use Rattle.ptree_trees.proofs.change.sort.sort_by_text.Goals as goal

pub returns : goal.returns
returns c =
    on_ok_weaker c.sort_by.result
    (λ s. sorts_trees tree_of c.args.items.now.items c.sort_by.new.self.items c.sort_by.ensures.permutation
    (s (λ a b. is_text_less (tree_of a) (tree_of b)) (texts_rank tree_of) (answers_always _ _ _ (λ f a r g h. rw (tree_of_item a.0.now, tree_of_item a.1.0.now) (search rules))))
    (c.sort_by.ensures.stable (λ a b. is_text_less (tree_of a) (tree_of b)) (texts_rank tree_of)
    (answers_always _ _ _ (λ f a r g h. rw (tree_of_item a.0.now, tree_of_item a.1.0.now) (search rules)))))
    c.sort_by.ensures.sorted
