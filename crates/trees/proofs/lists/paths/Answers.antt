use Rattle.trees.proofs.Common.{◌≡◌, ◌∙◌, ℕ, true, false, List, map, ap, sym, subst, rules, Bor, names_of}
use Rattle.ptree.specs.Tree.{Tree, tree_of}
use Rattle.trees.specs.Listing.{source_lines, path_lines, given_paths, are_wrong, root_text, IsFolders}
use Rattle.trees.specs.ListingParts.{is_first_absolute, beside, are_wrong_lines}
use Rattle.trees.proofs.Listings.{wrong_lines, listing, stands}
use Rattle.trees.proofs.Readings.{fails_weaker}
use Rattle.trees.proofs.lists.paths.Goals as goal

pub returns-in_err-check_lines-clause-failed : goal.returns-in_err-check_lines-clause-failed
returns-in_err-check_lines-clause-failed c =
    let source = c.args.source.now in
    let paths = c.args.paths in
    let lines : List (Bor (List ℕ)) = c.in_ok-lines.lines.items in
    let first = c.is_first_absolute-are_absolute.result in
    let others = c.beside-others.result in
    let same : map (λ (l : Bor (List ℕ)). l.now) lines ≡ source_lines source paths = c.in_ok-lines.ensures ∙ ap (path_lines paths.ends_in_zero) c.unmarked.ensures in
    let is : first ≡ is_first_absolute (map (λ (l : Bor (List ℕ)). l.now) lines) = search rules in
    let asks : others ≡ beside paths.label first = search rules in
    let wrong = wrong_lines source paths lines first others same is asks in
    let one : (ls : List (Bor (List ℕ))) → Type 0 = λ ls. are_wrong_lines paths.ends_in_zero others (map (λ (l : Bor (List ℕ)). l.now) ls) ≡ true in
    let says = fails_weaker (one c.as_slice-2.result.now) (are_wrong paths.ends_in_zero paths.label (source_lines source paths) ≡ true) ⊥ c.in_err-check_lines.field-0.0 (λ h. sym wrong ∙ subst one c.as_slice-2.ensures.value h) c.in_err-check_lines.ensures.failed in
    search (rules, says)

pub returns-clause-listing : goal.returns-clause-listing
returns-clause-listing c =
    let source = c.args.source.now in
    let paths = c.args.paths in
    let lines : List (Bor (List ℕ)) = c.in_ok-lines.lines.items in
    let first = c.is_first_absolute-are_absolute.result in
    let others = c.beside-others.result in
    let t : Tree = tree_of c.in_ok-folders.field-0 in
    let same : map (λ (l : Bor (List ℕ)). l.now) lines ≡ source_lines source paths = c.in_ok-lines.ensures ∙ ap (path_lines paths.ends_in_zero) c.unmarked.ensures in
    let is : first ≡ is_first_absolute (map (λ (l : Bor (List ℕ)). l.now) lines) = search rules in
    let asks : others ≡ beside paths.label first = search rules in
    let right : are_wrong_lines paths.ends_in_zero others (map (λ (l : Bor (List ℕ)). l.now) lines) ≡ false = search rules in
    let root : t.text ≡ root_text paths.label first = search rules in
    let named : names_of 47 c.as_slice-4.result.now ≡ given_paths (map (λ (l : Bor (List ℕ)). l.now) lines) =
    ap (names_of 47) c.as_slice-4.ensures.value ∙ (c.in_ok-given.ensures ∙ ap (λ (ls : List (Bor (List ℕ))). given_paths (map (λ l. l.now) ls)) c.as_slice-3.ensures.value) in
    listing source paths t lines first others same is asks right root (subst (IsFolders paths.is_sorted t.children) named c.in_ok-folders.ensures.below)

pub returns-clause-stands : goal.returns-clause-stands
returns-clause-stands c =
    let paths = c.args.paths in
    stands paths.is_sorted (tree_of c.in_ok-folders.field-0).children (given_paths (source_lines c.args.source.now paths)) (returns-clause-listing c).folders
