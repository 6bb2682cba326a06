-- Two trees that have the same drawing with the set that has ticks, for children's texts of one
-- line.
use Rattle.std.proofs.Common.{◌≡◌, ◌≢◌, ℕ, ◌≤◌, List, [], ◌∷◌, ◌++◌, sym, ap, ◌∙◌, append_assoc, arith}
use Rattle.std.proofs.lemmas.List.{append-nil}
use Rattle.std.proofs.lemmas.List.Elements.{All-append}
use Rattle.ptree.specs.Drawing.{Look, with_inserted, continued_prefix}
use Rattle.ptree.specs.DrawnForm.{nested_tree, flat_tree, DrawAlike}
use Rattle.ptree.specs.Outline.{line}
use Rattle.ptree.specs.Spelled.{text_entry}
use Rattle.ptree.specs.Style.{plain_value, style_codes, painted_text}
use Rattle.ptree.specs.Texts.{HasNoLineFeed}
use Rattle.ptree.specs.Tree.{Tree}
use Rattle.ptree.proofs.Styles.PaintedTexts.{painted_plain, plain_codes}
use Rattle.ptree.proofs.Drawing.Inserted.{inserted_none}
use Rattle.ptree.proofs.Drawing.TreeDrawing.{tree_drawing, drawing_of_tree}

-- the entry of a text of one line if nothing is painted
entry_plain : (k : Look) (prefix passing text : List ℕ) → ((z : List ℕ) → painted_text k.branch z ≡ z) → ((z : List ℕ) → painted_text k.leaf z ≡ z) → HasNoLineFeed text
    → text_entry k prefix passing text ≡ prefix ++ text ++ 10 ∷ []
entry_plain k prefix passing text f g one =
    let ins : List ℕ = continued_prefix k passing in
    ap (λ z. z ++ with_inserted ins (painted_text k.leaf text) ++ 10 ∷ []) (f prefix)
    ∙ (ap (λ z. prefix ++ with_inserted ins z ++ 10 ∷ []) (g text) ∙ ap (λ z. prefix ++ z ++ 10 ∷ []) (inserted_none ins text one))

-- the two drawings are equal if the two pieces of a child with a later sibling are equal and
-- nothing is painted
one_drawing_of_both : (k : Look) → k.pieces.regular ≡ k.pieces.child → ((text : List ℕ) → painted_text k.branch text ≡ text) → ((text : List ℕ) → painted_text k.leaf text ≡ text) → (r a b c : List ℕ)
    → HasNoLineFeed b → HasNoLineFeed k.pieces.last_regular → tree_drawing k (nested_tree r a b c) ≡ tree_drawing k (flat_tree r a (k.pieces.last_regular ++ b) c)
one_drawing_of_both k same f g r a b c one piece =
    let p = k.pieces in
    let fr = k in
    let both = All-append (λ x. x ≢ 10) p.last_regular b piece one in
    let inner : List ℕ = text_entry fr ((p.child ++ []) ++ p.last_regular) (p.child ++ (p.last_child ++ [])) b in
    let flat : List ℕ = text_entry fr p.regular (p.child ++ []) (p.last_regular ++ b) in
    let mid : inner ≡ flat =
    entry_plain k ((p.child ++ []) ++ p.last_regular) (p.child ++ (p.last_child ++ [])) b f g one
    ∙ (moved p.child p.last_regular b
    ∙ (ap (λ z. z ++ (p.last_regular ++ b) ++ 10 ∷ []) (sym same) ∙ sym (entry_plain k p.regular (p.child ++ []) (p.last_regular ++ b) f g both))) in
    let root : List ℕ = text_entry fr [] [] r in
    let first : List ℕ = text_entry fr p.regular (p.child ++ []) a in
    let end : List ℕ = text_entry fr p.last_regular (p.last_child ++ []) c ++ [] in
    ap (λ z. root ++ (first ++ ((z ++ []) ++ end))) mid ∙ ap (λ z. root ++ (first ++ (z ++ end))) (append-nil flat)
  where
    moved : (x y z : List ℕ) → ((x ++ []) ++ y) ++ z ++ 10 ∷ [] ≡ x ++ (y ++ z) ++ 10 ∷ []
    moved x y z = ap (λ w. (w ++ y) ++ z ++ 10 ∷ []) (append-nil x) ∙ ap (λ w. w ++ 10 ∷ []) (append_assoc x y z)

-- two different trees have the same drawing if those pieces are equal
pub two_trees_one_drawing : (k : Look) (depth : ℕ) → k.pieces.regular ≡ k.pieces.child → k.branch ≡ plain_value → k.leaf ≡ plain_value → 2 ≤ depth → HasNoLineFeed k.pieces.last_regular → (r a b c : List ℕ) → HasNoLineFeed b
    → DrawAlike k depth (nested_tree r a b c) (flat_tree r a (k.pieces.last_regular ++ b) c)
two_trees_one_drawing k depth same e f deep piece r a b c line =
    let t : Tree = nested_tree r a b c in
    let u : Tree = flat_tree r a (k.pieces.last_regular ++ b) c in
    let one : tree_drawing k t ≡ tree_drawing k u =
    one_drawing_of_both k same (λ z. painted_plain k.branch z (ap style_codes e ∙ plain_codes)) (λ z. painted_plain k.leaf z (ap style_codes f ∙ plain_codes)) r a b c line piece in
    record {
      differ = λ g. cc;
      alike = λ x.
          let first = drawing_of_tree k depth t x (omega (arith, deep)) in
          let second = drawing_of_tree k depth u x (omega (arith, deep)) in
          (λ h. second.1 (first.0 h ∙ one), λ h. first.1 (second.0 h ∙ sym one));
    }
