use Rattle.std.specs.Prelude.{MatchOption}
use Rattle.std.proofs.Common.{◌≡◌, [], sym, subst}
use Rattle.ptree_trees.specs.Difference.{IsItemDifference}
use Rattle.ptree_trees.specs.declared.difference.Found.TheVariants.{Nothing, Difference as Differ}
use Rattle.ptree_trees.specs.Found.{FindsIn, IsReading}
use Rattle.ptree_trees.proofs.ItemsLeft.{found_whole}
use Rattle.ptree_trees.proofs.difference.find_first.Goals as goal
use Rattle.ptree_trees.proofs.difference.find_first.Goals.{in-Nothing, in-Difference}

pub returns-in-Err : goal.returns-in-Err
returns-in-Err c look depth x y h g = c.in-Err.ensures.left look depth x ([], h)

pub returns-in-Wrong : goal.returns-in-Wrong
returns-in-Wrong c look depth x y h g = c.wrong_right.ensures look depth x y (c.in-Ok.ensures.left look depth x ([], h)) (rw c.in-Wrong.is at c.in-Ok.ensures.right look depth y ([], g))

pub returns-in-Err-count_rest : goal.returns-in-Err-count_rest
returns-in-Err-count_rest c look depth x y h g =
    let read : IsReading look depth y c.find_from.new.right = elim c.match-found.branch [
      | in-Nothing w ↦ rw w.in-Nothing.is at c.in-Ok.ensures.right look depth y ([], g)
      | in-Difference w ↦ rw w.in-Difference.is at c.in-Ok.ensures.right look depth y ([], g)
    ] in
    c.wrong_right-in-Err-count_rest.ensures look depth x y (c.in-Ok.ensures.left look depth x ([], h)) (c.in-Err-count_rest.ensures.count look depth y read.0 read.1)

pub returns-in-Ok-count_rest : goal.returns-in-Ok-count_rest
returns-in-Ok-count_rest c look depth x y h g =
    let read = c.in-Ok.ensures.left look depth x ([], h) in
    let also : IsReading look depth y c.find_from.new.right = elim c.match-found.branch [
      | in-Nothing w ↦ rw w.in-Nothing.is at c.in-Ok.ensures.right look depth y ([], g)
      | in-Difference w ↦ rw w.in-Difference.is at c.in-Ok.ensures.right look depth y ([], g)
    ] in
    let (t, _, form) = (c.in-Ok-count_rest.ensures.count look depth x read.0 read.1).2 in
    let (u, _, other) = (c.in_default.ensures.count look depth y also.0 also.1).2 in
    let found = found_whole look depth x y c.args.items.now c.args.others.now c.find_from.new.left c.find_from.new.right c.in-Ok.found t u (c.in-Ok.ensures.found look depth x y) h g form other in
    let first : MatchOption c.match-found.first (t ≡ u) (IsItemDifference t u) = elim c.match-found.branch [
      | in-Nothing w ↦ let none : FindsIn look depth x y c.find_from.new.left c.find_from.new.right [] [] t u Nothing = rw w.in-Nothing.is at found in
          subst (λ o. MatchOption o (t ≡ u) (IsItemDifference t u)) (sym w.first-is) none.0
      | in-Difference w ↦ let some : FindsIn look depth x y c.find_from.new.left c.find_from.new.right [] [] t u (Differ w.in-Difference.first) = rw w.in-Difference.is at found in
          subst (λ o. MatchOption o (t ≡ u) (IsItemDifference t u)) (sym w.first-is) (rw (w.reverse.ensures.items, w.reverse-in-Difference.ensures.items) some)
    ] in
    (t, u, form, other, first)

pub returns : goal.returns
returns c look depth x y h g =
    let read = c.in-Ok.ensures.left look depth x ([], h) in
    c.in-Err-count_rest-2.ensures.count look depth x read.0 read.1
