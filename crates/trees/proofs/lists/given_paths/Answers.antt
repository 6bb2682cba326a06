use Rattle.trees.proofs.Common.{◌≡◌, ℕ, true, false, eqb, List, [], ◌∷◌, ◌++◌, length, get_or, map, subst, rules, take_all, Bor, names_of}
use Rattle.trees.specs.Listing.{given_paths, path_names}
use Rattle.trees.specs.ListingParts.{own_names}
use Rattle.trees.proofs.GivenPaths.{given_more, given_same}
use Rattle.trees.proofs.lists.given_paths.Goals.{then-not-is_empty+in_ok-push, else-not-is_empty}
use Rattle.trees.proofs.lists.given_paths.Goals as goal

pub loop-line-preserved : goal.loop-line-preserved
loop-line-preserved c =
    let lines = c.args.lines.now in
    let i = c.loop-line.line-index in
    let line : Bor (List ℕ) = get_or lines i (record { ref_ptr = (0, 0); now = [] }) in
    let path = c.names_of-names.result in
    let old = c.loop-line.given.items in
    let named : own_names path.now ≡ path_names line.now = search rules in
    elim c.if-not-is_empty.branch [
      | then-not-is_empty+in_ok-push w ↦
          let some : eqb (length path.now) 0 ≡ false = search rules in
          let pushed : c.if-not-is_empty.given.items ≡ old ++ path ∷ [] = search rules in
          rw pushed (given_more lines old i (record { ref_ptr = (0, 0); now = [] }) path c.loop-line-test.true some named c.loop-line.invariant)
      | else-not-is_empty w ↦
          let none : eqb (length path.now) 0 ≡ true = search rules in
          rw w.given-is (given_same lines old i (record { ref_ptr = (0, 0); now = [] }) path c.loop-line-test.true none named c.loop-line.invariant)
    ]

pub returns : goal.returns
returns c =
    subst (λ (ls : List (Bor (List ℕ))). names_of 47 c.loop-line.given.items ≡ given_paths (map (λ l. l.now) ls)) (take_all c.loop-line.line-index c.args.lines.now c.loop-line-test.false) c.loop-line.invariant
