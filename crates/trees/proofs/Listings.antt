-- Paths that are right, and their trees.
use Rattle.trees.proofs.Common.{◌≡◌, ◌≢◌, ◌∙◌, ℕ, ◌+◌, ◌<◌, ◌&&◌, ◌||◌, not, Bool, true, false, cond, eqb, ltb, Option, Some, None, List, [], ◌∷◌, length, get_or, drop, map, refl, sym, ap, subst, Bor, slice_index, arith, at_drop_more, get_or_default, list_any_at, Any-from_list_any, both_ways, list_any, begins_with, begins}
use Rattle.std.proofs.lemmas.Bool.{false≢true, eqb-true, eq-eqb, and_from, or_parts, or_left, or_right, or_from, not_from_false}
use Rattle.ptree.specs.Tree.{Forest, Tree}
use Rattle.ptree_trees.specs.Paths.{names, next_names, texts_below}
use Rattle.ptree_trees.proofs.PathTrees.{names_have}
use Rattle.trees.specs.declared.command.Paths.{Paths}
use Rattle.trees.specs.declared.source.Source.{Source}
use Rattle.trees.specs.Listing.{byte_order_mark, unmarked, source_lines, path_names, given_paths, is_absolute, is_relative, is_quoted, is_cut_off, is_wrong_path, are_wrong, root_text, IsFolders, HasPaths, IsListing}
use Rattle.trees.proofs.PathNames.{own_count}
use Rattle.trees.specs.ListingParts.{own_names, is_first_absolute, beside, is_unlike, is_wrong_line, are_wrong_lines}

-- ## Texts

-- a text that begins with no byte order mark is unmarked
pub unmarked_bare : (text : List ℕ) → ((rest : List ℕ) → text ≢ 239 ∷ 187 ∷ 191 ∷ rest) → text ≡ unmarked text
unmarked_bare text lacks = at (begins_with byte_order_mark text) refl where
  at : (x : Bool) → begins_with byte_order_mark text ≡ x → text ≡ cond x (drop 3 text) text
  at true e = let q = begins byte_order_mark text e in absurd (lacks q.0 q.1)
  at false e = refl

-- a path begins with a slash if its first byte is one
pub first_byte : (path : List ℕ) → eqb (slice_index path 0) 47 ≡ is_absolute path
first_byte [] = refl
first_byte (b ∷ path) = refl

-- the empty path begins with nothing
pub relative_none : (path : List ℕ) → eqb (length path) 0 ≡ true → false ≡ is_relative path
relative_none [] h = refl
relative_none (b ∷ path) h = let none = eqb-true (length (b ∷ path)) 0 h in absurd (omega (arith, none))

-- another one with a slash or something else
pub relative_some : (path : List ℕ) → eqb (length path) 0 ≡ false → not (is_absolute path) ≡ is_relative path
relative_some [] h = absurd (false≢true (sym h))
relative_some (b ∷ path) h = refl

-- what says whether a text has a zero byte is the test
pub zero_test : (bs : List ℕ) (r : Bool) → (r ≡ true → (k : ℕ) × (k < length bs) × (get_or bs k 0 ≡ 0)) × ((k : ℕ) → k < length bs → get_or bs k 0 ≡ 0 → r ≡ true)
    → r ≡ list_any (λ b. eqb b 0) bs
zero_test bs r h = both_ways r (list_any (λ b. eqb b 0) bs) there (λ e. back (Any-from_list_any (λ b. eqb b 0) bs e)) where
  there : r ≡ true → list_any (λ b. eqb b 0) bs ≡ true
  there e = let q = h.0 e in list_any_at (λ b. eqb b 0) bs q.0 0 q.1 (eq-eqb (get_or bs q.0 0) 0 q.2)

  back : (k : ℕ) × (x : ℕ) × (k < length bs) × (get_or bs k x ≡ x) × (eqb x 0 ≡ true) → r ≡ true
  back q = h.1 q.0 q.2 (get_or_default bs q.0 0 q.1 q.2 ∙ (q.3 ∙ eqb-true q.1 0 q.4))

-- ## The first path

-- the first one says how it begins, unless it is empty
first_some : (path : List ℕ) (lines : List (List ℕ)) → eqb (length path) 0 ≡ false → is_absolute path ≡ is_first_absolute (path ∷ lines)
first_some [] lines h = absurd (false≢true (sym h))
first_some (b ∷ path) lines h = refl

first_none : (path : List ℕ) (lines : List (List ℕ)) → eqb (length path) 0 ≡ true → is_first_absolute lines ≡ is_first_absolute (path ∷ lines)
first_none [] lines h = refl
first_none (b ∷ path) lines h = let none = eqb-true (length (b ∷ path)) 0 h in absurd (omega (arith, none))

-- so does the first of the rest of the lines
pub first_here : (lines : List (Bor (List ℕ))) (i : ℕ) (d : Bor (List ℕ)) → i < length lines → eqb (length (get_or lines i d).now) 0 ≡ false
    → is_first_absolute (map (λ l. l.now) (drop i lines)) ≡ is_first_absolute (map (λ l. l.now) lines) → is_absolute (get_or lines i d).now ≡ is_first_absolute (map (λ l. l.now) lines)
first_here lines i d low some before =
    first_some (get_or lines i d).now (map (λ l. l.now) (drop (i + 1) lines)) some ∙ (sym (at_drop_more (λ (ls : List (Bor (List ℕ))). is_first_absolute (map (λ l. l.now) ls)) lines i d low) ∙ before)

pub first_later : (lines : List (Bor (List ℕ))) (i : ℕ) (d : Bor (List ℕ)) → i < length lines → eqb (length (get_or lines i d).now) 0 ≡ true
    → is_first_absolute (map (λ l. l.now) (drop i lines)) ≡ is_first_absolute (map (λ l. l.now) lines)
    → is_first_absolute (map (λ l. l.now) (drop (i + 1) lines)) ≡ is_first_absolute (map (λ l. l.now) lines)
first_later lines i d low none before =
    first_none (get_or lines i d).now (map (λ l. l.now) (drop (i + 1) lines)) none ∙ (sym (at_drop_more (λ (ls : List (Bor (List ℕ))). is_first_absolute (map (λ l. l.now) ls)) lines i d low) ∙ before)

-- if the first path begins with a slash, one does
first_true : (lines : List (List ℕ)) → is_first_absolute lines ≡ true → list_any is_absolute lines ≡ true
first_true [] h = absurd (false≢true h)
first_true ([] ∷ lines) h = first_true lines h
first_true ((b ∷ path) ∷ lines) h = or_left (eqb b 47) (list_any is_absolute lines) h

-- if it doesn't, and one does, another one begins with something else
first_false : (lines : List (List ℕ)) → is_first_absolute lines ≡ false → list_any is_absolute lines ≡ true → list_any is_relative lines ≡ true
first_false [] h k = absurd (false≢true k)
first_false ([] ∷ lines) h k = first_false lines h k
first_false ((b ∷ path) ∷ lines) h k = or_left (not (eqb b 47)) (list_any is_relative lines) (not_from_false (eqb b 47) h)

-- one is unlike the first exactly if some begin with a slash and some with something else
unlike_first : (lines : List (List ℕ)) → list_any (is_unlike (Some (is_first_absolute lines))) lines ≡ (list_any is_absolute lines && list_any is_relative lines)
unlike_first lines = at (is_first_absolute lines) refl where
  both : (a b : Bool) → (a ≡ true → b ≡ true) → a ≡ (a && b)
  both true b h = sym (h refl)
  both false b h = refl

  at : (f : Bool) → is_first_absolute lines ≡ f → list_any (is_unlike (Some f)) lines ≡ (list_any is_absolute lines && list_any is_relative lines)
  at true e = sym (ap (λ (x : Bool). x && list_any is_relative lines) (first_true lines e))
  at false e = both (list_any is_absolute lines) (list_any is_relative lines) (first_false lines e)

-- if they all begin alike, they begin as the first one does
same_first : (lines : List (List ℕ)) → (list_any is_absolute lines && list_any is_relative lines) ≡ false → is_first_absolute lines ≡ list_any is_absolute lines
same_first lines h = both_ways (is_first_absolute lines) (list_any is_absolute lines) (first_true lines) (at (is_first_absolute lines) refl) where
  at : (f : Bool) → is_first_absolute lines ≡ f → list_any is_absolute lines ≡ true → f ≡ true
  at true e k = refl
  at false e k = absurd (false≢true (sym h ∙ and_from (list_any is_absolute lines) (list_any is_relative lines) k (first_false lines e k)))

-- ## Wrong paths

-- one passes one of two tests exactly if one passes the first or one the second
any_or : (w u : List ℕ → Bool) (lines : List (List ℕ)) → list_any (λ p. w p || u p) lines ≡ (list_any w lines || list_any u lines)
any_or w u [] = refl
any_or w u (l ∷ lines) = ap (λ (x : Bool). (w l || u l) || x) (any_or w u lines) ∙ swapped (w l) (u l) (list_any w lines) (list_any u lines) where
  swapped : (a b c d : Bool) → ((a || b) || (c || d)) ≡ ((a || c) || (b || d))
  swapped true b c d = refl
  swapped false true true d = refl
  swapped false true false d = refl
  swapped false false c d = refl

-- none passes a test that nothing passes
any_none : (lines : List (List ℕ)) → list_any (is_unlike None) lines ≡ false
any_none [] = refl
any_none (l ∷ lines) = any_none lines

-- of the values of a list
pub any_map : (w : List ℕ → Bool) (lines : List (Bor (List ℕ))) → list_any (λ l. w l.now) lines ≡ list_any w (map (λ l. l.now) lines)
any_map w [] = refl
any_map w (l ∷ lines) = ap (λ (x : Bool). w l.now || x) (any_map w lines)

-- the last line is cut off, or one is wrong beside the first, exactly if the paths are wrong
wrong_is : (ends : Bool) (label : Option (Bor (List ℕ))) (lines : List (List ℕ)) → are_wrong_lines ends (beside label (is_first_absolute lines)) lines ≡ are_wrong ends label lines
wrong_is ends None lines =
    ap (λ (x : Bool). is_cut_off ends lines || x) (any_or (is_wrong_path ends) (is_unlike (Some (is_first_absolute lines))) lines ∙ ap (λ (x : Bool). list_any (is_wrong_path ends) lines || x) (unlike_first lines))
wrong_is ends (Some label) lines =
    ap (λ (x : Bool). is_cut_off ends lines || x) (any_or (is_wrong_path ends) (is_unlike None) lines ∙ ap (λ (x : Bool). list_any (is_wrong_path ends) lines || x) (any_none lines))

-- the same of the lines of an input
pub wrong_lines : (source : Source) (paths : Paths) (lines : List (Bor (List ℕ))) (first : Bool) (others : Option Bool) → map (λ l. l.now) lines ≡ source_lines source paths
    → first ≡ is_first_absolute (map (λ l. l.now) lines) → others ≡ beside paths.label first
    → are_wrong_lines paths.ends_in_zero others (map (λ l. l.now) lines) ≡ are_wrong paths.ends_in_zero paths.label (source_lines source paths)
wrong_lines source paths lines first others same is asks =
    let ends = paths.ends_in_zero in
    ap (λ (o : Option Bool). are_wrong_lines ends o (map (λ l. l.now) lines)) (asks ∙ ap (beside paths.label) is)
    ∙ (wrong_is ends paths.label (map (λ l. l.now) lines) ∙ ap (are_wrong ends paths.label) same)

-- a path has more names than there are levels if what is left of it has
deep_names : (path left : List ℕ) → own_names left ≡ path_names path → ltb 5000 (length (path_names path)) ≡ ltb 5000 (length (names 47 left))
deep_names path left e = ap (λ (ns : List (List ℕ)). ltb 5000 (length ns)) (sym e) ∙ sym (own_count left)

module _ (ends : Bool) (others : Option Bool) (path : List ℕ) where
  abbrev has_zero : Bool
  has_zero = list_any (λ b. eqb b 0) path

  abbrev is_deep : Bool
  is_deep = ltb 5000 (length (path_names path))

  abbrev is_quoted_line : Bool
  is_quoted_line = not ends && is_quoted path

  -- a line is wrong for one of four reasons
  pub wrong_zero : list_any (λ b. eqb b 0) path ≡ true → true ≡ is_wrong_line ends others path
  wrong_zero h = sym (or_left (is_wrong_path ends path) (is_unlike others path) (or_left has_zero (is_deep || is_quoted_line) h))

  pub wrong_deep : (left : List ℕ) → own_names left ≡ path_names path → ltb 5000 (length (names 47 left)) ≡ true → true ≡ is_wrong_line ends others path
  wrong_deep left e h =
      sym (or_left (is_wrong_path ends path) (is_unlike others path) (or_right has_zero (is_deep || is_quoted_line) (or_left is_deep is_quoted_line (deep_names path left e ∙ h))))

  pub wrong_quoted : (not ends && is_quoted path) ≡ true → true ≡ is_wrong_line ends others path
  wrong_quoted h = sym (or_left (is_wrong_path ends path) (is_unlike others path) (or_right has_zero (is_deep || is_quoted_line) (or_right is_deep is_quoted_line h)))

  pub wrong_unlike : is_unlike others path ≡ true → true ≡ is_wrong_line ends others path
  wrong_unlike h = sym (or_right (is_wrong_path ends path) (is_unlike others path) h)

  -- and right without them
  pub wrong_never : (left : List ℕ) → own_names left ≡ path_names path → list_any (λ b. eqb b 0) path ≡ false → ltb 5000 (length (names 47 left)) ≡ false
      → (not ends && is_quoted path) ≡ false → is_unlike others path ≡ false → false ≡ is_wrong_line ends others path
  wrong_never left e zero deep quoted unlike =
      sym (or_from (is_wrong_path ends path) (is_unlike others path) (or_from has_zero (is_deep || is_quoted_line) zero (or_from is_deep is_quoted_line (deep_names path left e ∙ deep) quoted)) unlike)

-- ## Trees

-- each path stands in its folders, and nothing else
pub stands : (b : Bool) (f : Forest) (paths : List (List (List ℕ))) → IsFolders b f paths → HasPaths f paths
stands true f paths h = λ ns n. (h ns).1 n
stands false f paths h = λ ns n. names_have false (texts_below f ns) (next_names ns paths) (h ns) n

-- the root's text is that of paths that are right
root_is : (ends : Bool) (label : Option (Bor (List ℕ))) (lines : List (List ℕ)) → are_wrong ends label lines ≡ false → root_text label (is_first_absolute lines) ≡ root_text label (list_any is_absolute lines)
root_is ends None lines h =
    let alike = list_any is_absolute lines && list_any is_relative lines in
    ap (root_text None) (same_first lines (or_parts (list_any (is_wrong_path ends) lines) alike ((or_parts (is_cut_off ends lines) (list_any (is_wrong_path ends) lines || alike) h).1)).1)
root_is ends (Some label) lines h = refl

-- a tree with the root and the folders of lines of which none is wrong is that of the input
pub listing : (source : Source) (paths : Paths) (t : Tree) (lines : List (Bor (List ℕ))) (first : Bool) (others : Option Bool) → map (λ l. l.now) lines ≡ source_lines source paths
    → first ≡ is_first_absolute (map (λ l. l.now) lines) → others ≡ beside paths.label first → are_wrong_lines paths.ends_in_zero others (map (λ l. l.now) lines) ≡ false
    → t.text ≡ root_text paths.label first → IsFolders paths.is_sorted t.children (given_paths (map (λ l. l.now) lines)) → IsListing source paths t
listing source paths t lines first others same is asks right root folders =
    let fits : are_wrong paths.ends_in_zero paths.label (source_lines source paths) ≡ false = sym (wrong_lines source paths lines first others same is asks) ∙ right in
    let absolute : first ≡ is_first_absolute (source_lines source paths) = is ∙ ap is_first_absolute same in record {
      right = fits;
      root = root ∙ (ap (root_text paths.label) absolute ∙ root_is paths.ends_in_zero paths.label (source_lines source paths) fits);
      folders = subst (λ (ls : List (List ℕ)). IsFolders paths.is_sorted t.children (given_paths ls)) same folders;
    }
