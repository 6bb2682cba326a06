-- Drawings that a terminal may get.
use Rattle.trees.proofs.Common.{◌≡◌, ℕ, ◌++◌, Bool, true, false, List, [], ◌∷◌, map, Option, Some, None, string_bytes, inl, inr, refl, sym, ap, ◌∙◌, subst, All, String, codes, slice_get, option_map, unwrap_or, Global, append-nil, true≢false, NoCharPasses, All-nil, All-cons, All-append, slice_get_within, unwrap_or-slice_get, NoCharPasses-append, Address, ConfigValue, painted_text, HasNoLineFeed, map_twice, is_hidden, escaped_text, mapped_forest, mapped_tree}
use Rattle.ptree.specs.declared.graph.Graph.{Graph}
use Rattle.ptree.specs.declared.print_config.OutputKind.TheVariants.{Unknown}
use Rattle.ptree.specs.Drawing.{Look, look_by, passing_text, continued_prefix, own_at, IsDrawing}
use Rattle.ptree.specs.Graph.{weights_of, edges_of, neighbors_of, node_own, node_shape}
use Rattle.ptree.specs.Occurrence.{OccurrenceTree, occurrence_kids, occurrence_own, occurrence_shape, mark_text}
use Rattle.ptree.specs.Shape.{Shape}
use Rattle.ptree.specs.Tree.{none, item, Forest, Tree, tree, trees, tree_kids, tree_own, shape_of_tree}
use Rattle.ptree.proofs.Drawing.Joined.{OfCharacters, OfLook, turning_of, passing_of, passed_of, drawing_of, own_of_kids}
use Rattle.ptree.proofs.Trees.Shapes.{kids_of_unfold}
use Rattle.ptree_trees.proofs.Escapes.{text_shown}
use Rattle.trees.specs.declared.deps.Dependencies.{Dependencies}
use Rattle.trees.specs.Shown.{shown_lines, shown_characters, shown_config, AreShownLabels, IsLookCode, IsShown}
use Rattle.trees.specs.Writing.{IsTreeDrawing, IsGraphDrawing}
use Rattle.trees.proofs.ShownTexts.{feed_calm, mark_calm, calm, lines_calm, none_shown, both_shown, calm_shown, painted_shown, look_code_line, text_inserted}

-- ## Labels

-- a label as a terminal may get it
abbrev IsShownLabel : String Global → Type 0
IsShownLabel label = NoCharPasses is_hidden (string_bytes label)

-- a graph without a node
pub no_labels : (g : Graph (String Global)) → weights_of g ≡ [] → AreShownLabels g
no_labels g empty = subst (λ (ws : List (String Global)). All IsShownLabel ws) (sym empty) (All-nil IsShownLabel)

-- one label more
pub label_added : (g h : Graph (String Global)) (label : String Global) → weights_of h ≡ weights_of g ++ label ∷ [] → AreShownLabels g → NoCharPasses is_hidden (string_bytes label) → AreShownLabels h
label_added g h label more all shown =
    subst (λ (ws : List (String Global)). All IsShownLabel ws) (sym more) (All-append IsShownLabel (weights_of g) (label ∷ []) all (All-cons IsShownLabel label [] shown (All-nil IsShownLabel)))

-- the same labels
pub same_labels : (g h : Graph (String Global)) → weights_of h ≡ weights_of g → AreShownLabels g → AreShownLabels h
same_labels g h same all = subst (λ (ws : List (String Global)). All IsShownLabel ws) (sym same) all

-- a label of a graph
label_shown : (g : Graph (String Global)) → AreShownLabels g → (v : ℕ) (w : String Global) → slice_get (weights_of g) v ≡ Some w → IsShownLabel w
label_shown g h v w is =
    subst (λ (l : String Global). NoCharPasses is_hidden (string_bytes l)) (sym (unwrap_or-slice_get (weights_of g) v w) ∙ ap (λ o. unwrap_or o w) is) (h v w (slice_get_within (weights_of g) v w is))

-- ## Drawings

-- the children of a tree whose texts are replaced
kids_mapped : (f : List ℕ → List ℕ) (c : Forest) → trees (mapped_forest f c) ≡ map (mapped_tree f) (trees c)
kids_mapped f none = refl
kids_mapped f (item t c r) = ap (λ ts. mapped_tree f (tree t c) ∷ ts) (kids_mapped f r)

-- a label and the mark of a repeated occurrence
marked_shown : (mark : List ℕ) (r : Bool) (text : List ℕ) → NoCharPasses is_hidden mark → NoCharPasses is_hidden text → NoCharPasses is_hidden (text ++ mark_text mark r)
marked_shown mark true text m h = NoCharPasses-append is_hidden text mark h m
marked_shown mark false text m h = subst (NoCharPasses is_hidden) (sym (append-nil text)) h

-- what is drawn with a look whose codes are such codes
module _ (Code : List ℕ → Type 0) (look : Look) (in' : (part : List ℕ) → IsLookCode look part → Code part) where
  -- the own bytes of a text
  pub own_text_shown : (text : List ℕ) → NoCharPasses is_hidden text → IsShown Code (painted_text look.leaf text)
  own_text_shown text h = painted_shown Code look.leaf (λ part is. in' part (inr is)) text (calm_shown Code text (calm text h))

  -- those of an escaped tree
  own_of_tree : (t : Tree) (a : Address) → IsShown Code (own_at look (shape_of_tree (mapped_tree escaped_text t)) a)
  own_of_tree t =
      own_of_kids (IsShown Code) (none_shown Code) look (λ u. shape_of_tree (mapped_tree escaped_text u)) tree_kids
      (λ u. own_text_shown (escaped_text u.text) (text_shown u.text))
      (λ u. sym (kids_of_unfold tree_own tree_kids (mapped_tree escaped_text u))
      ∙ (ap (map shape_of_tree) (kids_mapped escaped_text u.children) ∙ sym (map_twice (mapped_tree escaped_text) shape_of_tree (tree_kids u))))
      t

  -- those of a weight that may be there, with the text that f makes of it
  own_of_weight : (f : String Global → List ℕ) (weight : Option (String Global)) → ((w : String Global) → weight ≡ Some w → NoCharPasses is_hidden (f w))
      → IsShown Code (unwrap_or (option_map (λ w. painted_text look.leaf (f w)) weight) [])
  own_of_weight f None h = none_shown Code
  own_of_weight f (Some w) h = own_text_shown (f w) (h w refl)

  -- those of the nodes of a graph
  own_of_node : (g : Graph (String Global)) → AreShownLabels g → (v : ℕ) (a : Address) → IsShown Code (own_at look (node_shape string_bytes g v) a)
  own_of_node g h =
      own_of_kids (IsShown Code) (none_shown Code) look (node_shape string_bytes g) (neighbors_of (edges_of g))
      (λ v. own_of_weight string_bytes (slice_get (weights_of g) v) (λ w is. label_shown g h v w is))
      (λ v. sym (kids_of_unfold (node_own string_bytes g) (neighbors_of (edges_of g)) v))

  -- those of its occurrences
  own_of_occurrence : (g : Graph (String Global)) → AreShownLabels g → (mark : List ℕ) → NoCharPasses is_hidden mark → (t : OccurrenceTree) (a : Address)
      → IsShown Code (own_at look (occurrence_shape string_bytes g mark t) a)
  own_of_occurrence g h mark m =
      own_of_kids (IsShown Code) (none_shown Code) look (occurrence_shape string_bytes g mark) occurrence_kids
      (λ t. own_of_weight (λ w. string_bytes w ++ mark_text mark t.repeated) (slice_get (weights_of g) t.node) (λ w is. marked_shown mark t.repeated (string_bytes w) m (label_shown g h t.node w is)))
      (λ t. sym (kids_of_unfold (occurrence_own string_bytes g mark) occurrence_kids t))

-- a drawing whose own bytes are shown, with the look of a configuration on a terminal
pub shape_shown : (config : ConfigValue) (Code : List ℕ → Type 0) → let look = look_by (shown_config true config) Unknown false in
    ((part : List ℕ) → IsLookCode look part → Code part) → ((part : List ℕ) → Code part → HasNoLineFeed part)
    → (x : Shape) (bytes : List ℕ) → ((a : Address) → IsShown Code (own_at look x a)) → IsDrawing look x config.depth bytes → IsShown Code bytes
shape_shown config Code in' lines x bytes own drawn =
    let look : Look = look_by (shown_config true config) Unknown false in
    let Q : List ℕ → Type 0 = IsShown Code in
    let c = config.characters in
    let escaped : (text : List ℕ) → Q (shown_lines text) = λ text. calm_shown Code (shown_lines text) (lines_calm text) in
    let all : OfCharacters Q (shown_characters c) = record {
      down_and_right = escaped c.down_and_right;
      down = escaped c.down;
      turn_right = escaped c.turn_right;
      right = escaped c.right;
      empty = escaped c.empty;
    } in
    let painted : (text : List ℕ) → Q text → Q (painted_text look.branch text) = painted_shown Code look.branch (λ part is. in' part (inl is)) in
    let of_look : OfLook Q look = record {
      turning = turning_of Q (none_shown Code) (both_shown Code) (shown_characters c) config.indent config.padding all;
      passing = passing_of Q (none_shown Code) (both_shown Code) (shown_characters c) config.indent config.padding all;
      painted = painted;
      feed = calm_shown Code (10 ∷ []) feed_calm;
    } in
    let passed : (a : Address) → Q (passing_text look x a) = passed_of Q (none_shown Code) (both_shown Code) look of_look x in
    let inserted : (a : Address) → Q (continued_prefix look (passing_text look x a)) =
    λ a. painted (passing_text look x a ++ look.marker) (both_shown Code (passing_text look x a) look.marker (passed a) (escaped config.continued)) in
    drawing_of Q (none_shown Code) (both_shown Code) look of_look x (λ a. text_inserted Code lines (continued_prefix look (passing_text look x a)) (inserted a) (own_at look x a) (own a)) config.depth bytes drawn

-- the drawing of a tree as a configuration asks for it
pub tree_shown : (b : Bool) (config : ConfigValue) (t : Tree) (bytes : List ℕ) → IsTreeDrawing (shown_config b config) b t bytes → b ≡ true
    → IsShown (IsLookCode (look_by (shown_config b config) Unknown false)) bytes
tree_shown false config t bytes drawn e = absurd (true≢false (sym e))
tree_shown true config t bytes drawn e =
    let look : Look = look_by (shown_config true config) Unknown false in
    shape_shown config (IsLookCode look) (λ part is. is) (look_code_line look) (shape_of_tree (mapped_tree escaped_text t)) bytes (own_of_tree (IsLookCode look) look (λ part is. is) t) drawn

-- the drawing of a graph
pub graph_shown : (b : Bool) (config : ConfigValue) (found : Dependencies) (walks : Bool) (bytes : List ℕ) → (b ≡ true → AreShownLabels found.graph) → IsGraphDrawing (shown_config b config) found walks bytes → b ≡ true
    → IsShown (IsLookCode (look_by (shown_config b config) Unknown false)) bytes
graph_shown false config found walks bytes labels drawn e = absurd (true≢false (sym e))
graph_shown true config found true bytes labels drawn e =
    let look : Look = look_by (shown_config true config) Unknown false in
    shape_shown config (IsLookCode look) (λ part is. is) (look_code_line look) (node_shape string_bytes found.graph found.root.0) bytes
    (own_of_node (IsLookCode look) look (λ part is. is) found.graph (labels e) found.root.0) drawn
graph_shown true config found false bytes labels drawn e =
    let look : Look = look_by (shown_config true config) Unknown false in
    shape_shown config (IsLookCode look) (λ part is. is) (look_code_line look) (occurrence_shape string_bytes found.graph (codes " (*)") drawn.0) bytes
    (own_of_occurrence (IsLookCode look) look (λ part is. is) found.graph (labels e) (codes " (*)") mark_calm drawn.0) drawn.2
