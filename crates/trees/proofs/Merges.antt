-- Merges of two trees, made one child after another.
use Rattle.trees.proofs.Common.{◌≡◌, ◌≢◌, ◌∙◌, ℕ, ◌+◌, ◌-◌, ◌<◌, ◌≤◌, ◌++◌, true, false, All, List, [], ◌∷◌, length, get_or, map, take, drop, Option, Some, None, string_bytes, ap, refl, sym, subst, append_assoc, append-nil, slice_range, option_map, bytes_eq, true≢false, arith, All-map, All-head, All-tail, All-weaker, slice_get_read, bytes_eq-Decides, StyleValue, style_of, StringItem, out-StringItem, tree_of_item, left_more, HasParts}
use Rattle.std.proofs.lemmas.List.{take_more, take_all, map-append, get_or_default, get_or-take, get_or-drop, length-take-le, length-drop}
use Rattle.std.proofs.lemmas.List.Folds.{drop_split}
use Rattle.ptree.specs.declared.style.Style.{Style}
use Rattle.ptree.specs.Tree.{Forest, Tree, item, tree_of, forest}
use Rattle.ptree_trees.specs.declared.styled.StyledItem.{StyledItem}
use Rattle.trees.specs.declared.compare.Look.{Look}
use Rattle.trees.specs.declared.compare.Side.{Side}
use Rattle.trees.specs.declared.compare.Side.TheVariants.{Left, Right}
use Rattle.trees.specs.Merging.{shared, alone, nothing, left_forest, right_forest, root_texts, next_shared, StyledForest, StyledTree, styled, styled_forest, styled_tree_of, side_style, marked_text, marked_forest, marked_tree, shown_merge, roots_text, ShowsMerge, ShowsBoth}
use Rattle.trees.specs.MergingParts.{text_at, LacksText}
use Rattle.trees.specs.Shown.{shown_text}
use Rattle.trees.proofs.StyledTrees.{styled_tree, tree_of_parts}

-- ## Trees that are in one alone

-- what is shown of the next of the items
pub next_shown : {X Y T U : Type 0} (view : X → T) (show : Y → U) (f : T → U) (first : List U) (xs : List X) (done new : List Y) (i : ℕ) (x : X) (s : Y)
    → i < length xs → x ≡ get_or xs i x → new ≡ done ++ s ∷ []
    → map show done ≡ first ++ map f (map view (take i xs)) → show s ≡ f (view x) → map show new ≡ first ++ map f (map view (take (i + 1) xs))
next_shown view show f first xs done new i x s l is made before here =
    let front : take (i + 1) xs ≡ take i xs ++ x ∷ [] = rw (← is) at (take_more xs i x l) in
    rw (front, made, map-append, map-append, map-append, before, here, append_assoc) refl

-- a forest of marked trees is the forest marked
marked_trees : (look : Look) (side : Side) (ts : List Tree) → styled_forest (map (marked_tree look side) ts) ≡ marked_forest look side (forest ts)
marked_trees look side [] = refl
marked_trees look side (t ∷ ts) = ap (styled (marked_text look side t.text) (side_style look side) (marked_forest look side t.children)) (marked_trees look side ts)

-- an item with marked parts is the item marked
pub whole_marked : (look : Look) (side : Side) (root : StringItem) (s : StyledItem) (text : List ℕ) (own : Option Style) (made : List StyledItem) (xs : List StringItem) (i : ℕ)
    → xs ≡ (out-StringItem root).children.items → length xs ≤ i → HasParts text own made s → text ≡ marked_text look side (string_bytes (out-StringItem root).text)
    → option_map style_of own ≡ side_style look side → map styled_tree_of made ≡ map (marked_tree look side) (map tree_of (take i xs)) → styled_tree_of s ≡ marked_tree look side (tree_of root)
whole_marked look side root s text own made xs i e l parts marks style kids =
    let items = (out-StringItem root).children.items in
    let all : take i xs ≡ items = take_all i xs l ∙ e in
    let below : styled_forest (map styled_tree_of made) ≡ marked_forest look side (forest (map tree_of items)) =
    ap styled_forest kids ∙ (marked_trees look side (map tree_of (take i xs)) ∙ ap (λ (ys : List StringItem). marked_forest look side (forest (map tree_of ys))) all) in
    tree_of_parts text own made s parts ∙ ap (λ (t : List ℕ). styled_tree t (option_map style_of own) (map styled_tree_of made)) marks
    ∙ ap (λ (o : Option StyleValue). styled_tree (marked_text look side (string_bytes (out-StringItem root).text)) o (map styled_tree_of made)) style
    ∙ ap (λ (f : StyledForest). record { text = marked_text look side (string_bytes (out-StringItem root).text); style = side_style look side; children = f }) below
    ∙ ap (marked_tree look side) (sym (tree_of_item root))

-- ## Items

-- the forest of an item's children
pub forest_below : (s : StringItem) (xs : List StringItem) → xs ≡ (out-StringItem s).children.items → forest (map tree_of xs) ≡ (tree_of s).children
forest_below s xs e = ap (λ (ys : List StringItem). forest (map tree_of ys)) e ∙ sym (ap (λ t. t.children) (tree_of_item s))

-- an item is the first of those that are left behind others
pub items_passed : (ys : List StringItem) (from at : ℕ) (y : StringItem) → from ≤ at → at < length ys → y ≡ get_or ys at y
    → map tree_of (drop from ys) ≡ map tree_of (slice_range ys from at) ++ tree_of y ∷ map tree_of (drop (at + 1) ys)
items_passed ys from at y in_order l is =
    ap (map tree_of) (drop_split ys from at in_order) ∙ map-append tree_of (slice_range ys from at) (drop at ys) ∙ ap (λ ts. map tree_of (slice_range ys from at) ++ ts) (left_more tree_of ys at y l is)

-- an item at a position has the text there
pub text_found : (ys : List StringItem) (at : ℕ) (y : StringItem) (text : List ℕ) → at < length ys → y ≡ get_or ys at y → text_at ys at ≡ Some text → text ≡ (tree_of y).text
text_found ys at y text l is there = cc (sym there ∙ ap (option_map (λ s. (tree_of s).text)) (slice_get_read ys (length ys) at y refl l is))

-- the texts of a forest's roots
root_texts_of : (ts : List Tree) → root_texts (forest ts) ≡ map (λ t. t.text) ts
root_texts_of [] = refl
root_texts_of (t ∷ ts) = ap (λ xs. t.text ∷ xs) (root_texts_of ts)

-- items of which none has a text: some of those behind a position
lacks_all : (ys : List StringItem) (from n : ℕ) (text : List ℕ) → n ≤ length ys - from → LacksText ys from (from + n) text
    → All (λ (t : Tree). t.text ≢ text) (map tree_of (take n (drop from ys)))
lacks_all ys from n text few lacks = All-map (λ (t : Tree). t.text ≢ text) tree_of (take n (drop from ys)) (λ k d l same.
    let long : length (take n (drop from ys)) ≤ n = omega (arith, length-take-le n (drop from ys) (omega (arith, length-drop from ys, few))) in
    let low : k < n = omega arith in
    let within : from + k < length ys = omega arith in
    let is : get_or (take n (drop from ys)) k d ≡ get_or ys (from + k) d = get_or-take n (drop from ys) k d low ∙ get_or-drop from ys k d in
    let y = get_or ys (from + k) d in
    let there : text_at ys (from + k) ≡ Some (tree_of y).text = ap (option_map (λ s. (tree_of s).text)) (slice_get_read ys (length ys) (from + k) y refl within (get_or_default ys (from + k) d y within)) in
    lacks (from + k) (omega arith) (omega arith) (there ∙ ap Some (ap (λ (s : StringItem). (tree_of s).text) (sym is) ∙ same)))

-- those that are passed over have not the text of the one that is found
pub passed_apart : (ys : List StringItem) (from at : ℕ) (text own : List ℕ) → from ≤ at → at ≤ length ys → LacksText ys from at text → own ≡ text → All (λ (t : Tree). t.text ≢ own) (map tree_of (slice_range ys from at))
passed_apart ys from at text own in_order within lacks e =
    let sum : from + (at - from) ≡ at = omega arith in
    lacks_all ys from (at - from) own (omega arith) (subst (λ (n : ℕ). LacksText ys from n own) (sym sum) (subst (LacksText ys from at) (sym e) lacks))

-- nor have all that are left, if none is found
pub rest_apart : (ys : List StringItem) (from : ℕ) (text own : List ℕ) → from ≤ length ys → LacksText ys from (length ys) text → own ≡ text → All (λ (t : Tree). t.text ≢ own) (map tree_of (drop from ys))
rest_apart ys from text own within lacks e =
    let all : take (length ys - from) (drop from ys) ≡ drop from ys = take_all (length ys - from) (drop from ys) (omega (arith, length-drop from ys)) in
    subst (λ (zs : List StringItem). All (λ (t : Tree). t.text ≢ own) (map tree_of zs)) all (passed_apart ys from (length ys) text own within (omega arith) lacks e)

-- an item is pushed onto those that are shown
pub pushed_shown : (mid new : List StyledItem) (s : StyledItem) (shown : List StyledTree) → new ≡ mid ++ s ∷ [] → map styled_tree_of mid ≡ shown → map styled_tree_of new ≡ shown ++ styled_tree_of s ∷ []
pushed_shown mid new s shown made before = ap (map styled_tree_of) made ∙ map-append styled_tree_of mid (s ∷ []) ∙ ap (λ ts. ts ++ styled_tree_of s ∷ []) before

-- an item over what shows a merge shows one of two trees
pub whole_both : (look : Look) (t u : Tree) (s : StyledItem) (text : List ℕ) (made : List StyledItem) → HasParts text None made s → text ≡ roots_text look t.text u.text
    → ShowsMerge look t.children u.children (styled_forest (map styled_tree_of made)) → ShowsBoth look t u (styled_tree_of s)
whole_both look t u s text made parts texts below = subst (ShowsBoth look t u) (sym (tree_of_parts text None made s parts)) (record { text = texts; style = refl; below = below })

-- ## Merges

-- trees show a merge of two lists of trees
abbrev pub Shows : Look → List Tree → List Tree → List StyledTree → Type 0
Shows look ts us shown = ShowsMerge look (forest ts) (forest us) (styled_forest shown)

-- with a merge of what is left, what is made shows a merge of all
pub record ShowsBut (look : Look) (ts us left right : List Tree) (made : List StyledTree) : Type 0 where
  pub go : (rest : List StyledTree) → Shows look left right rest → Shows look ts us (made ++ rest)

module _ (look : Look) where
  -- nothing shows a merge of nothing
  abbrev pub shows_none : Shows look [] [] []
  shows_none = record { merge = nothing; left = refl; right = refl; next = tt; is = refl }

  -- a tree before the left ones whose text no right one has
  shows_left : (t : Tree) (ts us : List Tree) (rest : List StyledTree) → All (λ u. u.text ≢ t.text) us → Shows look ts us rest → Shows look (t ∷ ts) us (marked_tree look Left t ∷ rest)
  shows_left t ts us rest lacks h = record {
    merge = alone Left t.text t.children h.merge;
    left = ap (item t.text t.children) h.left;
    right = h.right;
    next = (subst (λ (f : Forest). All (λ u. u ≢ t.text) (root_texts f)) (sym h.right) (subst (All (λ u. u ≢ t.text)) (sym (root_texts_of us)) (All-map (λ u. u ≢ t.text) (λ u. u.text) us lacks)), h.next);
    is = ap (styled (marked_text look Left t.text) (side_style look Left) (marked_forest look Left t.children)) h.is;
  }

  -- a merge of the same with the same next text
  abbrev SameNext : (ts us : List Tree) (rest : List StyledTree) → Option (List ℕ) → Type 0
  SameNext ts us rest next = (k : Shows look ts us rest) × (next_shared k.merge ≡ next)

  -- trees before the right ones that don't have the next text
  shows_right : (over ts us : List Tree) (rest : List StyledTree) (h : Shows look ts us rest) → All (λ u. next_shared h.merge ≢ Some u.text) over
      → SameNext ts (over ++ us) (map (marked_tree look Right) over ++ rest) (next_shared h.merge)
  shows_right [] ts us rest h apart = (h, refl)
  shows_right (u ∷ over) ts us rest h apart =
      let more = shows_right over ts us rest h (All-tail (λ v. next_shared h.merge ≢ Some v.text) u over apart) in
      let k = more.0 in (
        record {
          merge = alone Right u.text u.children k.merge;
          left = k.left;
          right = ap (item u.text u.children) k.right;
          next = ((λ same. All-head (λ v. next_shared h.merge ≢ Some v.text) u over apart (sym more.1 ∙ same)), k.next);
          is = ap (styled (marked_text look Right u.text) (side_style look Right) (marked_forest look Right u.children)) k.is;
        },
        more.1,
      )

  -- the text of two roots with one text
  one_text : (t u : List ℕ) → t ≡ u → roots_text look t u ≡ shown_text look.is_escaped t
  one_text t u e =
      let same : bytes_eq t u ≡ true = (bytes_eq-Decides t u).1 e in
      rw same refl

  -- a tree with the same text before both
  abbrev shows_both : (t u : Tree) (s : StyledTree) (ts us : List Tree) (rest : List StyledTree) → t.text ≡ u.text → ShowsBoth look t u s → Shows look ts us rest → Shows look (t ∷ ts) (u ∷ us) (s ∷ rest)
  shows_both t u s ts us rest same both h = record {
    merge = shared t.text both.below.merge h.merge;
    left = ap (λ (f : Forest). item t.text f (left_forest h.merge)) both.below.left ∙ ap (item t.text t.children) h.left;
    right = ap (λ (x : List ℕ). item x (right_forest both.below.merge) (right_forest h.merge)) same
        ∙ ap (λ (f : Forest). item u.text f (right_forest h.merge)) both.below.right ∙ ap (item u.text u.children) h.right;
    next = (both.below.next, h.next);
    is = ap (λ (x : List ℕ). styled x s.style s.children (styled_forest rest)) (both.text ∙ one_text t.text u.text same)
        ∙ ap (λ (o : Option StyleValue). styled (shown_text look.is_escaped t.text) o s.children (styled_forest rest)) both.style
        ∙ ap (λ (f : StyledForest). styled (shown_text look.is_escaped t.text) None f (styled_forest rest)) both.below.is
        ∙ ap (styled (shown_text look.is_escaped t.text) None (shown_merge look both.below.merge)) h.is;
  }

  module _ (ts us : List Tree) where
    -- a tree of each goes with the other, behind right ones that are passed over
    pub step_both : (t u : Tree) (over left right ls rs : List Tree) (s : StyledTree) (made new : List StyledTree) → left ≡ t ∷ ls → right ≡ over ++ u ∷ rs → new ≡ (made ++ map (marked_tree look Right) over) ++ s ∷ []
        → t.text ≡ u.text → All (λ v. v.text ≢ t.text) over → ShowsBoth look t u s → ShowsBut look ts us left right made → ShowsBut look ts us ls rs new
    step_both t u over left right ls rs s made new e f is same apart both h = record {
      go = λ rest k.
          let passed = shows_right over (t ∷ ls) (u ∷ rs) (s ∷ rest) (shows_both t u s ls rs rest same both k) (All-weaker (λ v. v.text ≢ t.text) (λ v. Some t.text ≢ Some v.text) (λ v other e. let same : v.text ≡ t.text = (cc) in other same) over apart) in
          rw (is, append_assoc, append_assoc) (h.go (map (marked_tree look Right) over ++ s ∷ rest) (rw (e, f) passed.0));
    }

    -- a left tree goes with none
    pub step_left : (t : Tree) (left ls right : List Tree) (s : StyledTree) (made new : List StyledTree) → left ≡ t ∷ ls → new ≡ made ++ s ∷ [] → s ≡ marked_tree look Left t
        → All (λ u. u.text ≢ t.text) right → ShowsBut look ts us left right made → ShowsBut look ts us ls right new
    step_left t left ls right s made new e is marks lacks h = record {
      go = λ rest k. rw (is, append_assoc, marks) (h.go (marked_tree look Left t ∷ rest) (rw e (shows_left t ls right rest lacks k)));
    }

    -- the right trees that are left go with none
    pub step_end : (left right : List Tree) (made new : List StyledTree) → left ≡ [] → new ≡ made ++ map (marked_tree look Right) right → ShowsBut look ts us left right made → Shows look ts us new
    step_end left right made new e is h =
        let passed = shows_right right [] [] [] shows_none (λ k d l none. let no : false ≡ true = (cc) in true≢false (sym no)) in
        rw is (h.go (map (marked_tree look Right) right) (rw e (simp append-nil at passed.0)))
