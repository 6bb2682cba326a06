-- The loops that look for the first path to a value of a kind: over elements, and over members.
use Rattle.std.proofs.Common.{◌≡◌, ◌∙◌, ℕ, ◌<◌, ◌≤◌, ◌+◌, List, [], ◌∷◌, ◌++◌, map, drop, length, get_or, Vec, String, Global, Option, Some, None, string_bytes, ap, sym, subst, arith}
use Rattle.std.proofs.lemmas.List.{at_drop_more, drop_all}
use Rattle.std.proofs.lemmas.Map.Keys.{sorted_head, sorted_tail}
use Rattle.std.specs.List.Sorted.{IsStrictlySortedBy}
use Rattle.std.specs.Map.{keys_of}
use Rattle.std.specs.String.{string_cmp}
use Rattle.ptree_trees.specs.declared.documents.refused.Step.{Step}
use Rattle.ptree_trees.specs.declared.documents.refused.Step.TheVariants.{Key, Position}
use Rattle.ptree_trees.specs.RefusedPath.{StepValue, at_key, at_position, LeadsTo, IsFirstOf}
use Rattle.ptree_trees.specs.RefusedWalk.{path_found, element_rows, member_rows, IsFirstIn}
use Rattle.ptree_trees.proofs.RefusedPaths.{AreFirstBut, one_row_passed, next_row_found, all_rows_passed, found_below}
use Rattle.ptree_trees.proofs.RefusedRows.{elements_after, members_after}

module _ {V D : Type 0} (at_step : StepValue → D → Option D) (IsOfKind : D → Type 0) (meant : V → D) where
  -- the elements from a position on have the first path of all
  abbrev pub AreElementsLeft : List V → ℕ → Type 0
  AreElementsLeft xs i = AreFirstBut at_step IsOfKind (element_rows 0 (map meant xs)) (element_rows i (map meant (drop i xs)))

  -- the rows from an element on
  element_first : (xs : List V) (i : ℕ) (x : V) → i < length xs → x ≡ get_or xs i x
      → element_rows i (map meant (drop i xs)) ≡ (at_position i, meant x) ∷ element_rows (i + 1) (map meant (drop (i + 1) xs))
  element_first xs i x low is =
      at_drop_more (λ z. element_rows i (map meant z)) xs i x low ∙ ap (λ v. (at_position i, meant v) ∷ element_rows (i + 1) (map meant (drop (i + 1) xs))) (sym is)

  -- an element that leads nowhere is passed
  pub element_passed : (xs : List V) (i : ℕ) (x : V) → i < length xs → x ≡ get_or xs i x → AreElementsLeft xs i → IsFirstOf (LeadsTo at_step IsOfKind (meant x)) None → AreElementsLeft xs (i + 1)
  element_passed xs i x low is h none =
      one_row_passed at_step IsOfKind _ (at_position i, meant x) (element_rows (i + 1) (map meant (drop (i + 1) xs))) _ (element_first xs i x low is) h none

  -- an element that leads somewhere has the first path of all
  pub element_found : (xs : List V) (i : ℕ) (x : V) (found more : Vec Step Global) → i < length xs → x ≡ get_or xs i x → AreElementsLeft xs i
      → IsFirstOf (LeadsTo at_step IsOfKind (meant x)) (Some (path_found found)) → more.items ≡ found.items ++ Position i ∷ []
      → IsFirstIn at_step IsOfKind (element_rows 0 (map meant xs)) (Some (path_found more))
  element_found xs i x found more low is h first items =
      let later = element_rows (i + 1) (map meant (drop (i + 1) xs)) in
      let after = elements_after i (i + 1) (map meant (drop (i + 1) xs)) (omega arith) in
      next_row_found at_step IsOfKind _ (at_position i, meant x) later _ _ _ (element_first xs i x low is) h after first (found_below found more (Position i) items)

  -- no element leads anywhere
  pub elements_passed : (xs : List V) (i : ℕ) → length xs ≤ i → AreElementsLeft xs i → IsFirstIn at_step IsOfKind (element_rows 0 (map meant xs)) None
  elements_passed xs i end h = all_rows_passed at_step IsOfKind _ _ (ap (λ z. element_rows i (map meant z)) (drop_all i xs end)) h

  -- the members that are left, whose keys ascend, have the first path of all
  pub record AreMembersLeft (ms left : List (String Global × V)) : Type 0 where
    pub sorted : IsStrictlySortedBy string_cmp (keys_of left)
    pub rows : AreFirstBut at_step IsOfKind (member_rows meant ms) (member_rows meant left)

  -- a member that leads nowhere is passed
  pub member_passed : (ms left others : List (String Global × V)) (k : String Global) (v : V) → left ≡ (k, v) ∷ others → AreMembersLeft ms left
      → IsFirstOf (LeadsTo at_step IsOfKind (meant v)) None → AreMembersLeft ms others
  member_passed ms left others k v steps h none = record {
    sorted = sorted_tail string_cmp k (keys_of others) (subst (λ z. IsStrictlySortedBy string_cmp (keys_of z)) steps h.sorted);
    rows = one_row_passed at_step IsOfKind _ (at_key (string_bytes k), meant v) (member_rows meant others) _ (ap (member_rows meant) steps) h.rows none;
  }

  -- a member that leads somewhere has the first path of all
  pub member_found : (ms left others : List (String Global × V)) (k copy : String Global) (v : V) (found more : Vec Step Global) → left ≡ (k, v) ∷ others → AreMembersLeft ms left
      → IsFirstOf (LeadsTo at_step IsOfKind (meant v)) (Some (path_found found)) → string_bytes copy ≡ string_bytes k → more.items ≡ found.items ++ Key copy ∷ []
      → IsFirstIn at_step IsOfKind (member_rows meant ms) (Some (path_found more))
  member_found ms left others k copy v found more steps h first same items =
      let sorted = subst (λ z. IsStrictlySortedBy string_cmp (keys_of z)) steps h.sorted in
      let path = found_below found more (Key copy) items ∙ ap (λ b. at_key b ∷ path_found found) same in
      let after = members_after meant k others (sorted_head string_cmp k (keys_of others) sorted) in
      next_row_found at_step IsOfKind _ (at_key (string_bytes k), meant v) (member_rows meant others) _ _ _ (ap (member_rows meant) steps) h.rows after first path

  -- no member leads anywhere
  pub members_passed : (ms left : List (String Global × V)) → left ≡ [] → AreMembersLeft ms left → IsFirstIn at_step IsOfKind (member_rows meant ms) None
  members_passed ms left end h = all_rows_passed at_step IsOfKind _ _ (ap (member_rows meant) end) h.rows
